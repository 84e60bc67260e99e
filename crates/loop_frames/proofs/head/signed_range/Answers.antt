use Rattle.std.proofs.Common.{sym, arith}
use Rattle.std.specs.Prelude.{◌<ℤ◌}
use Rattle.std.proofs.lemmas.Int.{ints, to_z-of_z}
use Rattle.loop_frames.proofs.Ranges.{signed_range_none}
use Rattle.loop_frames.proofs.head.signed_range.Goals as goal

pub returns-else-low-high : goal.returns-else-low-high
returns-else-low-high c =
    let above : c.args.high <ℤ c.args.low = grind (arith, ints, to_z-of_z) in
    sym (signed_range_none c.args.precision c.args.low c.args.high above)
