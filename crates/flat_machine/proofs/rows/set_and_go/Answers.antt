use Rattle.std.proofs.Common.{arith}
use Rattle.std.proofs.lemmas.Grind.{common_steps}
use Rattle.flat_machine.proofs.rows.set_and_go.Goals as goal

pub returns-clause-sets : goal.returns-clause-sets
returns-clause-sets c = grind (arith, common_steps)
