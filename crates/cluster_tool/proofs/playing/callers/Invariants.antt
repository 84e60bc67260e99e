use Rattle.cluster_tool.specs.Callers.{AreNew}
use Rattle.cluster_tool.proofs.playing.callers.Given as goal

-- the clients so far
abbrev pub invariant-loop-client : goal.invariant-loop-client
invariant-loop-client g l = AreNew l.client l.callers.items
