use Rattle.std.proofs.Common.{arith}
use Rattle.std.proofs.lemmas.Grind.{common_steps}
use Rattle.replication.proofs.packed_log.pack_log.Goals as goal

-- turned by packs_all
pub returns : goal.returns
returns c = grind (arith, common_steps)
