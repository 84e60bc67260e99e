use Rattle.std.proofs.Common.{rules}
use Rattle.txn.proofs.staged.Staged.object.Goals as goal

-- turned by a_read_misses_the_writes
pub returns-in-Written : goal.returns-in-Written
returns-in-Written c = search rules
