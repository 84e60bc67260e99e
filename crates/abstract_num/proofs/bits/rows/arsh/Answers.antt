use Rattle.std.proofs.Common.{rules, ◌%◌, ◌∙◌, bit_and, ℕ}
use mathlib.Core.Path.{ap₂}
use Rattle.abstract_num.specs.proved.BitsRows.{apart_arsh}
use Rattle.abstract_num.proofs.bits.rows.arsh.Goals as goal

pub invariant_of-result : goal.invariant_of-result
invariant_of-result c = record {
  apart = ap₂ (λ (a b : ℕ). bit_and a b) c.shifted_signed.ensures c.shifted_signed-2.ensures ∙ apart_arsh (c.args.by % 64) c.args.left.value c.args.left.unknown c.args.left.value_fits c.args.left.unknown_fits c.args.left.apart;
  value_fits = search rules;
  unknown_fits = search rules;
}
