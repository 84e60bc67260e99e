use Rattle.std.proofs.Common.{◌≡◌, drop}
use Rattle.group_world.specs.Maps.{all_among}
use Rattle.peering_messages.proofs.compare.are_among.Given as goal

abbrev pub invariant-loop-node : goal.invariant-loop-node
invariant-loop-node l = all_among (drop l.node-index l.nodes) l.others ≡ all_among l.nodes l.others
