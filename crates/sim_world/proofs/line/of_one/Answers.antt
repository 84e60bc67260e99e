use Rattle.std.proofs.Common.{arith}
use Rattle.std.proofs.lemmas.Grind.{common_steps}
use Rattle.sim_world.proofs.line.of_one.Goals as goal

pub returns-then-eq-4 : goal.returns-then-eq-4
returns-then-eq-4 c = grind (arith, common_steps)

pub returns-then-eq-5 : goal.returns-then-eq-5
returns-then-eq-5 c = grind (arith, common_steps)

pub returns-else-eq-5 : goal.returns-else-eq-5
returns-else-eq-5 c = grind (arith, common_steps)
