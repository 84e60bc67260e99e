use Rattle.std.proofs.Common.{arith}
use Rattle.std.proofs.lemmas.Grind.{common_steps}
use Rattle.flat_machine.proofs.calls.reads.read.Goals as goal

pub returns-in-Some-clause-helped : goal.returns-in-Some-clause-helped
returns-in-Some-clause-helped c = grind (arith, common_steps)

pub returns-in-None-clause-helped : goal.returns-in-None-clause-helped
returns-in-None-clause-helped c = grind (arith, common_steps)

pub read_into-requires-clause-some : goal.read_into-requires-clause-some
read_into-requires-clause-some c = grind (arith, common_steps)
