use Rattle.std.proofs.Common.{arith}
use Rattle.std.proofs.lemmas.Grind.{common_steps, elements}
use Rattle.sim_world.proofs.line.two_in.Goals as goal

pub returns-in_ok-second-in-len2 : goal.returns-in_ok-second-in-len2
returns-in_ok-second-in-len2 c = grind (arith, common_steps)

pub returns-in_err-first-in-len2 : goal.returns-in_err-first-in-len2
returns-in_err-first-in-len2 c = grind (arith, common_steps)

pub returns-in_default-2 : goal.returns-in_default-2
returns-in_default-2 c = grind (arith, common_steps)

pub returns-in_default : goal.returns-in_default
returns-in_default c = grind (arith, elements)

pub returns-in_err-second-in-len2 : goal.returns-in_err-second-in-len2
returns-in_err-second-in-len2 c = grind (arith, common_steps)
