use Rattle.std.proofs.Common.{arith}
use Rattle.std.proofs.lemmas.Grind.{common_steps}
use Rattle.replication.proofs.committed.least_beside.Goals as goal

-- turned by greatest_length
pub loop-come-preserved : goal.loop-come-preserved
loop-come-preserved c = grind (arith, common_steps)
