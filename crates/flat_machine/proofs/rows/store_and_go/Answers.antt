use Rattle.std.proofs.Common.{arith}
use Rattle.std.proofs.lemmas.Grind.{common_steps}
use Rattle.flat_machine.proofs.rows.store_and_go.Goals as goal

pub returns-clause-stores : goal.returns-clause-stores
returns-clause-stores c = grind (arith, common_steps)
