use Rattle.std.proofs.Common.{◌≡◌, ◌++◌, drop}
use Rattle.pg_log.specs.Entries.{requests_of}
use Rattle.group_world.specs.Unanswered.{reps_unacked}
use Rattle.peering.specs.inner.Arriving.{at_interval, first}
use Rattle.peering.proofs.node.resend.reps_unacked.Given as goal

abbrev pub invariant-loop-place : goal.invariant-loop-place
invariant-loop-place l =
    first l.most (l.sent.items ++ reps_unacked l.number (at_interval l.log.interval (requests_of l.log.entries.now)) (drop l.place l.acting) (drop l.place l.acked))
    ≡ first l.most (reps_unacked l.number (at_interval l.log.interval (requests_of l.log.entries.now)) l.acting l.acked)
