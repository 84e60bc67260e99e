use Rattle.std.proofs.Common.{◌≡◌, ◌++◌, drop}
use Rattle.group_world.specs.Node.{to_others}
use Rattle.group_world.specs.declared.message.MessageKind.TheVariants.{Rep}
use Rattle.peering_messages.proofs.packets.rep_to_others.Given as goal

abbrev pub invariant-loop-node : goal.invariant-loop-node
invariant-loop-node l =
    l.sent.items ++ to_others l.number (drop l.node-index l.nodes) (Rep l.rep.interval l.rep.place l.rep.request.now) ≡ to_others l.number l.nodes (Rep l.rep.interval l.rep.place l.rep.request.now)
