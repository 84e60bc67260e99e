use Rattle.std.proofs.Common.{rules, arith}
use Rattle.std.proofs.lemmas.Nat.{or_lt, and_le_l}
use Rattle.abstract_num.specs.proved.BitsFacts.{meet_apart}
use Rattle.abstract_num.proofs.bits.edges.same.Goals as goal

pub invariant_of-both : goal.invariant_of-both
invariant_of-both c = record {
  apart = meet_apart c.args.left.value c.args.left.unknown c.args.right.value c.args.right.unknown c.args.left.apart c.args.right.apart (search rules);
  value_fits = or_lt 64 c.args.left.value c.args.right.value c.args.left.value_fits c.args.right.value_fits;
  unknown_fits = omega (arith, and_le_l c.args.left.unknown c.args.right.unknown, c.args.left.unknown_fits);
}
