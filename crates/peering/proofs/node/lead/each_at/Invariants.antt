use Rattle.std.proofs.Common.{◌≡◌, ◌++◌, drop}
use Rattle.group_world.specs.Rules.{each_at}
use Rattle.peering.proofs.node.lead.each_at.Given as goal

abbrev pub invariant-loop-node : goal.invariant-loop-node
invariant-loop-node l = l.lengths.items ++ each_at (drop l._node-index l.nodes) l.length ≡ each_at l.nodes l.length
