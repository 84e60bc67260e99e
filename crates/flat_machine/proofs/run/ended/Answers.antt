use Rattle.std.proofs.Common.{arith}
use Rattle.std.proofs.lemmas.Grind.{common_steps}
use Rattle.flat_machine.proofs.run.ended.Goals as goal

pub returns-in_ok-output-in-Exit : goal.returns-in_ok-output-in-Exit
returns-in_ok-output-in-Exit c = grind (arith, common_steps)
