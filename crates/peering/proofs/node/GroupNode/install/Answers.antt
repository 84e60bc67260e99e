use Rattle.std.proofs.Common.{◌≡◌, true, ap, sym, ◌∙◌, subst, cond, nat_lt, IfOk, arith}
use Rattle.std.proofs.lemmas.Grind.{common_steps}
use Rattle.group_world.specs.Node.{Outcome, nothing, is_waiting}
use Rattle.group_world.specs.Rules.{arrive, is_usable, would_forget}
use Rattle.peering.specs.Numbered.{IsDone}
use Rattle.peering.proofs.Installing.{first_install, other_install, install_at, or_false, waits}
use Rattle.peering.proofs.node.GroupNode.install.Goals as goal

pub returns-then-is_waiting-clause-done : goal.returns-then-is_waiting-clause-done
returns-then-is_waiting-clause-done g c =
    let n = c.args.self.now in
    let o : Outcome = arrive n.number n.state c.args.map in
    let e = first_install c.args.table.now n.number n.state c.args.sender c.args.map c.args.list c.in_ok-arrival.arrival o c.in_ok-arrival.ensures.ok
    (ap is_waiting (sym c.status_after.ensures) ∙ sym c.is_waiting.ensures ∙ c.if-is_waiting.true) in
    let skip = ap (λ b. cond b (nothing n.state) (install_at c.args.table.now n.number n.state c.args.sender c.args.list o)) (sym c.ignores.ensures ∙ c.if-ignores.false) in
    let P : Outcome → Type 0 = λ w. IfOk c.install_first.result (λ sent. IsDone n c.install_first.new.self sent.items w) in
    subst P (e ∙ sym skip) c.install_first.ensures.done

pub returns-clause-done : goal.returns-clause-done
returns-clause-done g c =
    let n = c.args.self.now in
    let o : Outcome = arrive n.number n.state c.args.map in
    let usable : is_usable c.args.table.now n.state c.args.list ≡ true =
    ap (is_usable c.args.table.now n.state) (sym c.items.ensures) ∙ sym c.in_ok-can_take.ensures.ok ∙ c.if-not-branch.false in
    let e = other_install c.args.table.now n.number n.state c.args.sender c.args.map c.args.list c.in_ok-arrival.arrival o c.in_ok-arrival.ensures.ok usable
    (ap is_waiting (sym c.status_after.ensures) ∙ sym c.is_waiting.ensures ∙ c.if-is_waiting.false) in
    let skip = ap (λ b. cond b (nothing n.state) (install_at c.args.table.now n.number n.state c.args.sender c.args.list o)) (sym c.ignores.ensures ∙ c.if-ignores.false) in
    let P : Outcome → Type 0 = λ w. IfOk c.install_again.result (λ sent. IsDone n c.install_again.new.self sent.items w) in
    subst P (e ∙ sym skip) c.install_again.ensures.done

pub returns-then-not-branch-clause-done : goal.returns-then-not-branch-clause-done
returns-then-not-branch-clause-done g c = grind (arith, common_steps)

pub install_first-requires-clause-waits : goal.install_first-requires-clause-waits
install_first-requires-clause-waits g c = sym c.status_after.ensures ∙ waits _ (sym c.is_waiting.ensures ∙ c.if-is_waiting.true)

pub arrival-requires : goal.arrival-requires
arrival-requires g c =
    let n = c.args.self.now in
    or_false (nat_lt c.args.map.interval n.state.interval) (would_forget n.number n.state c.args.map) (sym c.ignores.ensures ∙ c.if-ignores.false)

pub returns-then-ignores-clause-done : goal.returns-then-ignores-clause-done
returns-then-ignores-clause-done g c = grind (arith, common_steps)
