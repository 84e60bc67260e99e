use Rattle.std.proofs.Common.{◌≡◌}
use Rattle.osd.proofs.running.Running.finds_work.Given as goal

abbrev pub invariant-loop-look : goal.invariant-loop-look
invariant-loop-look g l = l.worker-inside.takes.queues ≡ g.N.ClusterName.queues
