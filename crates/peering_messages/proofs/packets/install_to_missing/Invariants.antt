use Rattle.std.proofs.Common.{◌≡◌, ◌++◌, drop}
use Rattle.group_world.specs.Unanswered.{to_missing}
use Rattle.group_world.specs.declared.message.MessageKind.TheVariants.{Install}
use Rattle.peering_messages.proofs.packets.install_to_missing.Given as goal

abbrev pub invariant-loop-node : goal.invariant-loop-node
invariant-loop-node l =
    l.sent.items ++ to_missing l.number l.joined (drop l.node-index l.nodes) (Install l.install.map.now l.install.list.now) ≡ to_missing l.number l.joined l.nodes (Install l.install.map.now l.install.list.now)
