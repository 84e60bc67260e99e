use Rattle.std.proofs.Common.{arith}
use Rattle.std.proofs.lemmas.Grind.{common_steps}
use Rattle.flat_machine.proofs.rows.memsx_value.Goals as goal

pub returns-in_err-base : goal.returns-in_err-base
returns-in_err-base c = grind (arith, common_steps)

pub returns : goal.returns
returns c = grind (arith, common_steps)

pub returns-in_err-width : goal.returns-in_err-width
returns-in_err-width c = grind (arith, common_steps)
