use Rattle.std.proofs.Common.{◌≡◌, ◌++◌, drop}
use Rattle.group_world.specs.Rules.{raised}
use Rattle.peering.proofs.node.serve.raised.Given as goal

abbrev pub invariant-loop-place : goal.invariant-loop-place
invariant-loop-place l = l.lengths.items ++ raised l.member l.length (drop l.place l.acting) (drop l.place l.acked) ≡ raised l.member l.length l.acting l.acked
