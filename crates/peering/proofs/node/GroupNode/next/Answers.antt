use Rattle.std.proofs.Common.{◌≡◌, List, ap, sym, refl, subst, arith}
use Rattle.std.proofs.lemmas.Grind.{common_steps}
use Rattle.pg_log.specs.Requests.{ClientRequest}
use Rattle.pg_log.specs.Log.{Legal}
use Rattle.peering_messages.specs.Sending.{IsNextReply}
use Rattle.peering.proofs.Following.{next_reply}
use Rattle.peering.proofs.node.GroupNode.next.Goals as goal

pub returns-clause-reply : goal.returns-clause-reply
returns-clause-reply g c =
    let table = c.args.table.now in
    let P : List ClientRequest → Type 0 = λ w. IsNextReply table w c.in-Ok.entry in
    let L : List ClientRequest → Type 0 = Legal table in
    let log : c.self.inside.group ≡ c.args.self.now.state.log = ap (λ n. n.state.log) c.self.view_is in
    subst P log (next_reply c.legal_lists.ensures.append c.refusals.ensures.requests c.classes_added.ensures table g.C.Classes.classes c.self.inside.group c.args.request c.in-Ok.entry _
    c.requires.first c.in-Ok.ensures.request c.in-Ok.ensures.unrefused c.in-Ok.ensures.reply (subst L (sym log) c.requires.legal) refl)

pub returns-clause-next : goal.returns-clause-next
returns-clause-next g c = grind (arith, common_steps)
