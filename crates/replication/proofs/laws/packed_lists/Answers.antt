use Rattle.replication.proofs.Unpacked.{unpacked, committed_enough}
use Rattle.replication.proofs.laws.packed_lists.Goals as goal

pub returns-clause-same : goal.returns-clause-same
returns-clause-same c = unpacked

pub returns-clause-committed : goal.returns-clause-committed
returns-clause-committed c = committed_enough
