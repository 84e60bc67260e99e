use Rattle.std.proofs.Common.{sym}
use Rattle.loop_frames.proofs.Ranges.{range_none}
use Rattle.loop_frames.proofs.head.range.Goals as goal

pub returns-else-low-high : goal.returns-else-low-high
returns-else-low-high c = sym (range_none c.args.precision c.args.low c.args.high c.if-low-high.false)
