use Rattle.std.proofs.Common.{rules, ap, ◌∙◌, bit_and, ℕ}
use Rattle.abstract_num.specs.proved.BitsFacts.{fewer_apart}
use Rattle.abstract_num.proofs.bits.edges.none_of.Goals as goal

pub invariant_of-fewer : goal.invariant_of-fewer
invariant_of-fewer c = record {
  apart = ap (λ (x : ℕ). bit_and c.args.left.value x) c.without.ensures ∙ fewer_apart c.args.left.value c.args.left.unknown c.args.c c.args.left.apart;
  value_fits = search rules;
  unknown_fits = search rules;
}
