use Rattle.std.proofs.Common.{◌≡◌, ◌<◌, ◌∙◌, ◌++◌, ◌∷◌, [], List, ap, arith, cond, length, nat_lt, refl, subst, sym, true}
use Rattle.std.specs.List.{slice_get}
use Rattle.pg_log.specs.Requests.{ClientRequest}
use Rattle.pg_log.specs.Log.{reply_at}
use Rattle.peering_messages.specs.Sending.{IsLegalBy}
use Rattle.group_world.specs.Node.{Outcome, and_sends, nothing, packet}
use Rattle.group_world.specs.Rules.{or_empty, reply_packet}
use Rattle.group_world.specs.declared.party.Party.TheVariants.{Client as AClient}
use Rattle.group_world.specs.declared.message.MessageKind.TheVariants.{Reply as ReplyTo}
use Rattle.peering.proofs.Statuses.{below}
use Rattle.peering.proofs.node.GroupNode.answer_again.Goals as goal

pub reply_again-requires-clause-legal : goal.reply_again-requires-clause-legal
reply_again-requires-clause-legal g c =
    let L : List ClientRequest → Type 0 = IsLegalBy c.args.table.now g.C.Classes.classes in
    subst L (sym (ap (λ n. n.state.log) c.self.view_is)) c.requires.legal

pub reply_again-requires-clause-within : goal.reply_again-requires-clause-within
reply_again-requires-clause-within g c =
    let s = c.args.self.now.state in
    let there = c.pairs.ensures.there s.log c.args.request.now.client c.args.request.now.number c.args.place c.requires.logged in
    let within : c.args.place < length s.log = there.0 in
    let same = ap (λ n. length n.state.log) c.self.view_is in
    omega (arith, within, same)

pub returns-clause-done : goal.returns-clause-done
returns-clause-done g c =
    let n = c.args.self.now in
    let s = n.state in
    let table = c.args.table.now in
    let k = c.args.place in
    let r = c.args.request.now in
    let there = c.pairs.ensures.there s.log r.client r.number k c.requires.logged in
    let a : ClientRequest = there.1 in
    let at : slice_get c.self.inside.group k ≡ slice_get s.log k = ap (λ v. slice_get v.state.log k) c.self.view_is in
    let client : a.client ≡ r.client = there.3 in
    let number : a.number ≡ r.number = there.4 in
    let pair : reply_packet table n.number s.log k a ≡ reply_packet table n.number s.log k r =
    λ i. packet n.number (AClient (client i)) (ReplyTo (client i) (number i) k (or_empty (reply_at table s.log k))) in
    let said : c.in_ok-said.said ≡ reply_packet table n.number s.log k r =
    c.in_ok-said.ensures.ok a (at ∙ there.2) ∙ ap (λ v. reply_packet table v.number v.state.log k a) c.self.view_is ∙ pair in
    let known : nat_lt k s.committed ≡ true = below k s.committed (omega (arith, c.committed.ensures.value)) in
    let again : Outcome = and_sends (nothing s) (reply_packet table n.number s.log k r) in
    let h = ap (λ b. cond b again (nothing s)) known in
    record {
      number = refl;
      state = ap (λ o. o.node) (sym h);
      sent = c.push_reserved.ensures.items ∙ ap (λ ps. ps ++ c.in_ok-said.said ∷ []) c.in_ok-sent.ensures.items ∙ ap (λ p. p ∷ []) said ∙ ap (λ o. o.sent) (sym h);
      unrefused = ap (λ o. o.refusal) h;
    }
