use Rattle.std.proofs.Common.{arith}
use Rattle.std.proofs.lemmas.Grind.{common_steps}
use Rattle.flat_machine.proofs.rows.mov_value.Goals as goal

pub returns-then-f-eq0 : goal.returns-then-f-eq0
returns-then-f-eq0 c = grind (arith, common_steps)

pub returns : goal.returns
returns c = grind (arith, common_steps)

pub returns-in_err-y-2 : goal.returns-in_err-y-2
returns-in_err-y-2 c = grind (arith, common_steps)

pub returns-then-f-ne1 : goal.returns-then-f-ne1
returns-then-f-ne1 c = grind (arith, common_steps)
