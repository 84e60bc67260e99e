use Rattle.std.proofs.Common.{rules, ◌%◌}
use Rattle.abstract_num.specs.proved.BitsRows.{apart_shr}
use Rattle.abstract_num.proofs.bits.rows.rsh.Goals as goal

pub invariant_of-result : goal.invariant_of-result
invariant_of-result c =
    record { apart = apart_shr c.args.left.value c.args.left.unknown (c.args.by % 64) c.args.left.apart; value_fits = search rules; unknown_fits = search rules }
