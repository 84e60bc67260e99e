use Rattle.std.proofs.Common.{arith}
use Rattle.std.proofs.lemmas.Grind.{common_steps}
use Rattle.abstract_num.proofs.srange.edges.between.Goals as goal

pub invariant_of-result-else-other_high-other_low : goal.invariant_of-result-else-other_high-other_low
invariant_of-result-else-other_high-other_low c = grind (arith, common_steps)
