use Rattle.std.proofs.Common.{◌∙◌, ap, sym, subst, cond, nat_lt, arith}
use Rattle.std.proofs.lemmas.Grind.{common_steps}
use Rattle.group_world.specs.Node.{Outcome, nothing, and_sends, packet}
use Rattle.group_world.specs.declared.message.MessageKind.TheVariants.{Log as LogOf}
use Rattle.group_world.specs.Rules.{arrive, would_forget}
use Rattle.peering.specs.Numbered.{IsDone}
use Rattle.peering.proofs.Installing.{or_false}
use Rattle.peering.proofs.node.GroupNode.answer_query.Goals as goal

pub returns-clause-done : goal.returns-clause-done
returns-clause-done g c =
    let n = c.args.self.now in
    let e = c.in_ok-arrival.ensures.ok in
    let o : Outcome = arrive n.number n.state c.args.map in
    let answers = ap (λ b. cond b (nothing n.state) (and_sends o (packet n.number c.args.asker (LogOf o.node.interval o.node.log)))) (sym c.ignores.ensures ∙ c.if-ignores.false) in
    let P : Outcome → Type 0 = λ w. IsDone n c.moves.new.node c.moves.result.items w in
    subst P (sym answers) (record { number = c.moves.ensures.number; state = c.moves.ensures.state ∙ e.node; sent = c.moves.ensures.sent ∙ e.sent; unrefused = e.unrefused })

pub answering-requires : goal.answering-requires
answering-requires g c =
    let n = c.args.self.now in
    or_false (nat_lt c.args.map.interval n.state.interval) (would_forget n.number n.state c.args.map) (sym c.ignores.ensures ∙ c.if-ignores.false)

pub returns-then-ignores-clause-done : goal.returns-then-ignores-clause-done
returns-then-ignores-clause-done g c = grind (arith, common_steps)
