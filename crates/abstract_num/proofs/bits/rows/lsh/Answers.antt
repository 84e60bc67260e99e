use Rattle.std.proofs.Common.{rules, ◌%◌}
use Rattle.abstract_num.specs.proved.BitsRows.{apart_mod, apart_shl}
use Rattle.abstract_num.proofs.bits.rows.lsh.Goals as goal

pub invariant_of-result : goal.invariant_of-result
invariant_of-result c =
    record { apart = apart_mod _ _ 64 (apart_shl c.args.left.value c.args.left.unknown (c.args.by % 64) c.args.left.apart); value_fits = search rules; unknown_fits = search rules }
