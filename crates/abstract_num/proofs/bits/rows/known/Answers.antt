use Rattle.std.proofs.Common.{rules, ap, ◌∙◌, bit_and, ℕ}
use Rattle.abstract_num.specs.proved.PartsFit.{clear_apart}
use Rattle.abstract_num.proofs.bits.rows.known.Goals as goal

pub invariant_of-result : goal.invariant_of-result
invariant_of-result c =
    record { apart = ap (λ (x : ℕ). bit_and x c.args.unknown) c.without.ensures ∙ clear_apart c.args.value c.args.unknown; value_fits = search rules; unknown_fits = search rules }
