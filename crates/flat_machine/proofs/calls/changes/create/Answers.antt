use Rattle.std.proofs.Common.{arith}
use Rattle.std.proofs.lemmas.Grind.{common_steps}
use Rattle.flat_machine.proofs.calls.changes.create.Goals as goal

pub returns-in_ok-create-in-Some-clause-helped : goal.returns-in_ok-create-in-Some-clause-helped
returns-in_ok-create-in-Some-clause-helped c = grind (arith, common_steps)
