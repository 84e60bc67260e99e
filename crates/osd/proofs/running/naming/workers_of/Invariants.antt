use Rattle.std.proofs.Common.{◌≡◌, ◌+◌, vec_len}
use Rattle.std.specs.Prelude.{All}
use Rattle.osd.proofs.running.naming.workers_of.Given as goal

abbrev pub invariant-loop-number : goal.invariant-loop-number
invariant-loop-number g l = (vec_len l.passes + l.number ≡ l.count) × (vec_len l.senders + l.number ≡ vec_len l.initial.senders) × All (λ p. p.queues ≡ g.N.ClusterName.queues) l.passes.items
