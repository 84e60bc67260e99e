use Rattle.std.proofs.Common.{◌≡◌, ◌++◌, drop}
use Rattle.group_world.specs.Node.{to_all}
use Rattle.group_world.specs.declared.message.MessageKind.TheVariants.{Query}
use Rattle.peering_messages.proofs.packets.query_to_all.Given as goal

abbrev pub invariant-loop-node : goal.invariant-loop-node
invariant-loop-node l = l.sent.items ++ to_all l.number (drop l.node-index l.nodes) (Query l.map) ≡ to_all l.number l.nodes (Query l.map)
