use Rattle.std.proofs.Common.{arith}
use Rattle.std.proofs.lemmas.Grind.{common_steps}
use Rattle.pg_log.proofs.group.Group.keep.Goals as goal

pub add-requires-clause-next : goal.add-requires-clause-next
add-requires-clause-next g c = grind (arith, common_steps)

pub returns-clause-ok : goal.returns-clause-ok
returns-clause-ok g c = grind (arith, common_steps)
