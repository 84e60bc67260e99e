use Rattle.std.proofs.Common.{arith}
use Rattle.std.proofs.lemmas.Grind.{common_steps}
use Rattle.flat_machine.proofs.calls.reads.xattr_next.Goals as goal

pub returns-clause-helped : goal.returns-clause-helped
returns-clause-helped c = grind (arith, common_steps)
