use Rattle.std.proofs.Common.{rules}
use Rattle.abstract_num.specs.proved.BitsRows.{apart_mod}
use Rattle.abstract_num.proofs.bits.rows.cut.Goals as goal

pub invariant_of-result : goal.invariant_of-result
invariant_of-result c =
    record { apart = apart_mod c.args.left.value c.args.left.unknown 32 c.args.left.apart; value_fits = search rules; unknown_fits = search rules }
