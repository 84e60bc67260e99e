use Rattle.std.proofs.Common.{arith}
use Rattle.std.proofs.lemmas.Grind.{common_steps}
use Rattle.flat_machine.proofs.rows.call_row.Goals as goal

pub returns-in-None-clause-row : goal.returns-in-None-clause-row
returns-in-None-clause-row c = grind (arith, common_steps)

pub returns-in-Some-clause-row : goal.returns-in-Some-clause-row
returns-in-Some-clause-row c = grind (arith, common_steps)

pub returns-then-f-ne0-clause-row : goal.returns-then-f-ne0-clause-row
returns-then-f-ne0-clause-row c = grind (arith, common_steps)
