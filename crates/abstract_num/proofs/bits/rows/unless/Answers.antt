use Rattle.std.proofs.Common.{rules, ap, ◌∙◌, bit_and, ℕ}
use Rattle.abstract_num.specs.proved.BitsRows.{apart_clear}
use Rattle.abstract_num.proofs.bits.rows.unless.Goals as goal

pub invariant_of-result : goal.invariant_of-result
invariant_of-result c =
    record { apart = ap (λ (x : ℕ). bit_and c.args.value x) c.without.ensures ∙ apart_clear c.args.value c.args.unknown; value_fits = search rules; unknown_fits = search rules }
