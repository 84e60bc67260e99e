use Rattle.std.proofs.Common.{arith}
use Rattle.std.proofs.lemmas.Grind.{common_steps}
use Rattle.flat_machine.proofs.rows.neg_value.Goals as goal

pub returns : goal.returns
returns c = grind (arith, common_steps)

pub returns-in_err-x : goal.returns-in_err-x
returns-in_err-x c = grind (arith, common_steps)
