use Rattle.std.proofs.Common.{List, ap, drop, sym, subst, take, ◌∙◌, ◌++◌, ◌∷◌, []}
use Rattle.pg_log.specs.Requests.{ClientRequest}
use Rattle.peering_messages.specs.Sending.{IsLegalBy, IsNextReply}
use Rattle.group_world.specs.Node.{to_others}
use Rattle.group_world.specs.Rules.{replies_from}
use Rattle.group_world.specs.declared.message.MessageKind.TheVariants.{Rep}
use Rattle.group_world.specs.declared.message.Packet.{Packet}
use Rattle.peering.specs.inner.Arriving.{sent_with}
use Rattle.peering.proofs.node.GroupNode.sent_with.Goals as goal

pub replies_with-requires-clause-legal : goal.replies_with-requires-clause-legal
replies_with-requires-clause-legal g c =
    let L : List ClientRequest → Type 0 = IsLegalBy c.args.table.now g.C.Classes.classes in
    subst L (sym (ap (λ n. n.state.log) c.self.view_is)) c.requires.legal

pub replies_with-requires-clause-next : goal.replies_with-requires-clause-next
replies_with-requires-clause-next g c =
    let P : List ClientRequest → Type 0 = λ w. IsNextReply c.args.table.now w c.args.entry.now in
    subst P (sym (ap (λ n. n.state.log) c.self.view_is)) c.requires.reply

pub returns-clause-ok : goal.returns-clause-ok
returns-clause-ok g c =
    let n = c.self.inside in
    let r = c.args.entry.now.request in
    let log : List ClientRequest = n.group ++ r ∷ [] in
    let rest : List Packet = replies_from c.args.table.now n.number log n.committed (drop n.committed (take c.args.point log)) in
    c.in_ok-replies_with.ensures.ok
    ∙ ap (λ ps. ps ++ rest) (c.in_ok-sent.ensures.ok ∙ ap (λ w. to_others n.number w (Rep n.interval c.len.result r)) c.acting.ensures
    ∙ ap (λ j. to_others n.number n.members.acting (Rep n.interval j r)) c.len.ensures.value)
    ∙ ap (λ z. sent_with c.args.table.now z.number z.state r c.args.point) c.self.view_is
