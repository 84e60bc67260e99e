use Rattle.std.proofs.Common.{rules}
use Rattle.replication.proofs.packed_log.unpacked.Goals as goal

-- turned by own_list_whole
pub returns-in-Ok : goal.returns-in-Ok
returns-in-Ok c = search rules
