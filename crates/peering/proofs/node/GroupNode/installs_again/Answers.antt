use Rattle.std.proofs.Common.{◌≡◌, ap, sym, ◌∙◌, ◌++◌}
use Rattle.group_world.specs.Maps.{all_among}
use Rattle.group_world.specs.Unanswered.{to_missing}
use Rattle.group_world.specs.declared.message.MessageKind.TheVariants.{Install}
use Rattle.peering_messages.specs.Sending.{asked_if}
use Rattle.peering.proofs.node.GroupNode.installs_again.Goals as goal

pub returns-clause-ok : goal.returns-clause-ok
returns-clause-ok g c =
    let n = c.self.inside in
    let list : c.in_ok-list.list ≡ n.group = c.in_ok-list.ensures.ok ∙ sym (ap (λ z. z.state.log) c.self.view_is) in
    c.in_ok-ask_if.ensures.ok
    ∙ ap (λ ps. ps ++ asked_if n.number n.interval c.are_among.result) (c.in_ok-sent.ensures.ok
    ∙ ap (λ l. to_missing n.number c.deref.result.now c.acting-acting.result.now (Install n.members l)) list
    ∙ ap (λ w. to_missing n.number w c.acting-acting.result.now (Install n.members n.group)) c.deref.ensures.value
    ∙ ap (λ w. to_missing n.number n.joined.items w (Install n.members n.group)) c.acting-acting.ensures)
    ∙ ap (λ b. to_missing n.number n.joined.items n.members.acting (Install n.members n.group) ++ asked_if n.number n.interval b)
    (c.are_among.ensures ∙ ap (all_among c.acting-acting.result.now) c.deref-2.ensures.value ∙ ap (λ w. all_among w n.joined.items) c.acting-acting.ensures)
    ∙ ap (λ z. to_missing z.number z.state.joined z.state.members.acting (Install z.state.members z.state.log)
    ++ asked_if z.number z.state.interval (all_among z.state.members.acting z.state.joined)) c.self.view_is
