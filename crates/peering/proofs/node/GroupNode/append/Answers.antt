use Rattle.std.proofs.Common.{◌∙◌, ap, subst, IfOk, None, arith}
use Rattle.std.proofs.lemmas.Grind.{common_steps}
use Rattle.group_world.specs.Node.{Outcome}
use Rattle.group_world.specs.Rules.{append_new, request_at}
use Rattle.peering.specs.Numbered.{NumberedNode, IsDone}
use Rattle.peering.proofs.Following.{new_is, new_unrefused}
use Rattle.peering.proofs.Keeping.{short}
use Rattle.peering.proofs.node.GroupNode.append.Goals as goal

pub returns-clause-done : goal.returns-clause-done
returns-clause-done g c =
    let n = c.args.self.now in
    let t = c.args.table.now in
    let P : Outcome → Type 0 = λ o. IfOk c.keep_next.result (λ sent. IsDone n c.keep_next.new.self sent.items o) in
    let N : NumberedNode → Type 0 = λ w. IfOk c.keep_next.result (λ sent. IsDone w c.keep_next.new.self sent.items (append_new t w.number w.state c.in_ok-entry.entry.request)) in
    subst P (ap (append_new t n.number n.state) c.in_ok-entry.ensures.request ∙ new_is t n.number n.state c.args.request c.in_ok-entry.ensures.unrefused) (subst N c.next.ensures.same c.keep_next.ensures.done)

pub returns-clause-why : goal.returns-clause-why
returns-clause-why g c =
    let n = c.args.self.now in
    short c.keep_next.result (request_at c.args.table.now n.number n.state c.args.request None) (new_unrefused c.args.table.now n.number n.state c.args.request c.in_ok-entry.ensures.unrefused) c.keep_next.ensures.why

pub keep_next-requires-clause-reply : goal.keep_next-requires-clause-reply
keep_next-requires-clause-reply g c = grind (arith, common_steps)
