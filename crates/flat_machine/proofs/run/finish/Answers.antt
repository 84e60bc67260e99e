use Rattle.std.proofs.Common.{arith}
use Rattle.std.proofs.lemmas.Grind.{common_steps}
use Rattle.flat_machine.proofs.run.finish.Goals as goal

pub returns-in_ok-object : goal.returns-in_ok-object
returns-in_ok-object c = grind (arith, common_steps)

pub returns-in_ok-object-2 : goal.returns-in_ok-object-2
returns-in_ok-object-2 c = grind (arith, common_steps)
