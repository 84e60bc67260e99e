use Rattle.std.proofs.Common.{◌≡◌, drop}
use Rattle.replication.specs.Places.{least_from}
use Rattle.replication.proofs.committed.least_beside.Given as goal

abbrev pub invariant-loop-come : goal.invariant-loop-come
invariant-loop-come l = least_from l.point (drop l.come-index l.acked) ≡ least_from l.local l.acked
