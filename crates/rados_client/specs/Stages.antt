-- The stage of a cluster, as contracts see it.
use Rattle.std.specs.Prelude.{length, Some, None}
use Rattle.rados_client.specs.declared.cluster.Stage.{Stage}
use Rattle.rados_client.specs.declared.cluster.Stage.TheVariants.{Idle, Started}
use Rattle.rados_client.specs.Loading.{ClusterState}

-- a cluster that hasn't run has its classes, one that has run only their number
abbrev pub state_of : Stage → ClusterState
state_of (Idle parts table) = record { count = length table; config = Some parts.config; classes = Some table }
state_of (Started n) = record { count = n; config = None; classes = None }
