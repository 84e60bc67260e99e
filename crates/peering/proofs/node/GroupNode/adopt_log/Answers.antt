use Rattle.std.proofs.Common.{◌≡◌, eqb, true, false, [], ◌∷◌, ap, sym, ◌∙◌, cond, arith}
use Rattle.std.proofs.lemmas.Bool.{and_parts}
use Rattle.std.proofs.lemmas.Grind.{common_steps}
use Rattle.group_world.specs.Node.{is_asking}
use Rattle.group_world.specs.Rules.{is_usable}
use Rattle.group_world.specs.declared.status.Status.TheVariants.{Installing}
use Rattle.peering_messages.specs.Sending.{adopted_sent}
use Rattle.peering.specs.inner.Arriving.{with_log}
use Rattle.peering.proofs.Statuses.{asking_is, adopts, adopts_not}
use Rattle.peering.proofs.node.GroupNode.adopt_log.Goals as goal

pub returns-clause-done : goal.returns-clause-done
returns-clause-done g c =
    let n = c.args.self.now in
    let list = c.args.list in
    let v = c.self.view_is in
    let at = and_parts _ _ (sym c.is_at.ensures ∙ c.if-not-is_at.false) in
    let interval : eqb c.args.interval n.state.interval ≡ true = at.0 in
    let asks : is_asking n.state.status ≡ true = sym (asking_is n.state.status) ∙ at.1 in
    let usable : is_usable c.args.table.now n.state list ≡ true = sym c.in_ok-take_list.ensures.usable ∙ c.if-not-branch.false in
    let h = adopts c.args.table.now n.number n.state c.args.interval list interval asks usable in
    let w = c.in_ok-take_list.ensures.taken ∙ ap (λ b. cond b (with_log n list) n) (c.in_ok-take_list.ensures.usable ∙ usable) in
    let joined = c.in_ok-adopted.ensures.joined ∙ ap (λ z. z.number ∷ []) v in
    let sent = c.in_ok-adopted.ensures.sent ∙ ap (λ z. adopted_sent z.number z.state.interval z.state.members list) v in
    record {
      number = c.installs.ensures.number ∙ ap (λ z. z.number) w;
      state = c.installs.ensures.state ∙ (λ i. record ((w i).state) { status = Installing; joined = joined i; acked = [] }) ∙ ap (λ o. o.node) h;
      sent = c.installs.ensures.sent ∙ sent ∙ ap (λ o. o.sent) h;
      unrefused = ap (λ o. o.refusal) (sym h);
    }

pub returns-then-not-branch-clause-done : goal.returns-then-not-branch-clause-done
returns-then-not-branch-clause-done g c =
    let n = c.args.self.now in
    let list = c.args.list in
    let unusable : is_usable c.args.table.now n.state list ≡ false = sym c.in_ok-take_list.ensures.usable ∙ c.if-not-branch.true in
    let h = adopts_not c.args.table.now n.number n.state c.args.interval list unusable in
    let w = c.in_ok-take_list.ensures.taken ∙ ap (λ b. cond b (with_log n list) n) c.if-not-branch.true in
    record {
      number = ap (λ z. z.number) w;
      state = ap (λ z. z.state) w ∙ ap (λ o. o.node) h;
      sent = c.new-then-not-branch.ensures.items ∙ ap (λ o. o.sent) h;
      unrefused = ap (λ o. o.refusal) (sym h);
    }

pub returns-then-not-is_at-clause-done : goal.returns-then-not-is_at-clause-done
returns-then-not-is_at-clause-done g c = grind (arith, common_steps)
