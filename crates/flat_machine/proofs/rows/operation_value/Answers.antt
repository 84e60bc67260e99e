use Rattle.std.proofs.Common.{arith}
use Rattle.std.proofs.lemmas.Grind.{common_steps}
use Rattle.flat_machine.proofs.rows.operation_value.Goals as goal

pub returns-in_err-row : goal.returns-in_err-row
returns-in_err-row c = grind (arith, common_steps)

pub returns-then-not-allows : goal.returns-then-not-allows
returns-then-not-allows c = grind (arith, common_steps)

pub returns : goal.returns
returns c = grind (arith, common_steps)

pub returns-in_err-y : goal.returns-in_err-y
returns-in_err-y c = grind (arith, common_steps)

pub returns-in_err-x : goal.returns-in_err-x
returns-in_err-x c = grind (arith, common_steps)
