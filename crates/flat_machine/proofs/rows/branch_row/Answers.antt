use Rattle.std.proofs.Common.{arith}
use Rattle.std.proofs.lemmas.Grind.{common_steps}
use Rattle.flat_machine.proofs.rows.branch_row.Goals as goal

pub returns-clause-row : goal.returns-clause-row
returns-clause-row c = grind (arith, common_steps)

pub returns-in_err-y-clause-row : goal.returns-in_err-y-clause-row
returns-in_err-y-clause-row c = grind (arith, common_steps)
