use Rattle.std.proofs.Common.{◌≡◌, ◌++◌, take, drop}
use Rattle.group_world.specs.Rules.{replies_from}
use Rattle.peering_messages.proofs.replying.Replier.replies.Given as goal

abbrev pub invariant-loop-place : goal.invariant-loop-place
invariant-loop-place g l =
    l.sent.items ++ replies_from l.self.table.now l.self.number l.self.group.now l.place (drop l.place (take l.to l.self.group.now))
    ≡ replies_from l.self.table.now l.self.number l.self.group.now l.from (drop l.from (take l.to l.self.group.now))
