use Rattle.std.proofs.Common.{ap, sym, ◌∙◌, subst, cond, arith}
use Rattle.std.proofs.lemmas.Grind.{common_steps}
use Rattle.group_world.specs.Node.{Outcome, nothing}
use Rattle.group_world.specs.Rules.{arrive}
use Rattle.peering.specs.Numbered.{IsDone}
use Rattle.peering.proofs.node.GroupNode.learn_map.Goals as goal

pub returns-clause-done : goal.returns-clause-done
returns-clause-done g c =
    let n = c.args.self.now in
    let e = c.in_ok-arrival.ensures.ok in
    let learns = ap (λ b. cond b (nothing n.state) (arrive n.number n.state c.args.map)) (sym c.would_forget.ensures ∙ c.if-would_forget.false) in
    let P : Outcome → Type 0 = λ o. IsDone n c.moves.new.node c.moves.result.items o in
    subst P (sym learns) (record { number = c.moves.ensures.number; state = c.moves.ensures.state ∙ e.node; sent = c.moves.ensures.sent ∙ e.sent; unrefused = e.unrefused })

pub returns-then-would_forget-clause-done : goal.returns-then-would_forget-clause-done
returns-then-would_forget-clause-done g c = grind (arith, common_steps)
