use Rattle.std.proofs.Common.{rules}
use Rattle.replication.proofs.packed_log.PackedLog.after.Goals as goal

-- turned by rest_left_out
pub returns-in-Ok-append : goal.returns-in-Ok-append
returns-in-Ok-append c = search rules
