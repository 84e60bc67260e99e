use Rattle.std.proofs.Common.{arith}
use Rattle.std.proofs.lemmas.Grind.{common_steps}
use Rattle.flat_machine.proofs.calls.reads.read_over.Goals as goal

pub returns-clause-long : goal.returns-clause-long
returns-clause-long c = grind (arith, common_steps)
