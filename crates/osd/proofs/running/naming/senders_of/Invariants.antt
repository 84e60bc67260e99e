use Rattle.std.proofs.Common.{◌≡◌, ◌+◌, vec_len}
use Rattle.std.specs.Prelude.{All}
use Rattle.osd.proofs.running.naming.senders_of.Given as goal

abbrev pub invariant-loop-sender : goal.invariant-loop-sender
invariant-loop-sender g l = (vec_len l.senders ≡ l.sender) × (vec_len l.passes + l.sender ≡ l.count) × All (λ p. p.queues ≡ g.N.ClusterName.queues) l.passes.items
