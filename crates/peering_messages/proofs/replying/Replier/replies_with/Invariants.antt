use Rattle.std.proofs.Common.{◌≡◌, ◌++◌, ◌∷◌, [], take, drop}
use Rattle.group_world.specs.Rules.{replies_from}
use Rattle.peering_messages.proofs.replying.Replier.replies_with.Given as goal

abbrev pub invariant-loop-place : goal.invariant-loop-place
invariant-loop-place g l =
    l.sent.items ++ replies_from l.self.table.now l.self.number (l.self.group.now ++ l.next.request ∷ []) l.place (drop l.place (take l.to (l.self.group.now ++ l.next.request ∷ [])))
    ≡ l.initial.sent.items ++ replies_from l.self.table.now l.self.number (l.self.group.now ++ l.next.request ∷ []) l.from (drop l.from (take l.to (l.self.group.now ++ l.next.request ∷ [])))
