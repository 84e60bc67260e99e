use Rattle.std.proofs.Common.{◌≡◌, ◌&&◌, refl, false, ℕ, true, List, ap, drop, eqb, length, max, sym, take, ◌∙◌, subst, arith}
use Rattle.std.proofs.lemmas.Bool.{and_parts}
use Rattle.std.proofs.lemmas.Grind.{common_steps}
use Rattle.pg_log.specs.Requests.{ClientRequest}
use Rattle.peering_messages.specs.Sending.{IsLegalBy}
use Rattle.group_world.specs.Node.{is_active}
use Rattle.group_world.specs.Rules.{least_of, raised, replies_from}
use Rattle.group_world.specs.declared.party.Party.TheVariants.{Node as ANode}
use Rattle.peering.proofs.Statuses.{acknowledges, acknowledges_not, active_is}
use Rattle.peering.proofs.node.GroupNode.acknowledge.Goals as goal

pub replies-requires-clause-legal : goal.replies-requires-clause-legal
replies-requires-clause-legal g c =
    let L : List ClientRequest → Type 0 = IsLegalBy c.args.table.now g.C.Classes.classes in
    subst L (sym (ap (λ n. n.state.log) c.self.view_is)) c.requires

pub returns-clause-done : goal.returns-clause-done
returns-clause-done g c =
    let n = c.args.self.now in
    let s = n.state in
    let lengths : List ℕ = raised c.args.ack.sender c.args.ack.length s.members.acting s.acked in
    let tested = c.is_at.ensures in
    let at = and_parts _ _ (sym tested ∙ c.if-not-is_at.false) in
    let same : eqb c.args.ack.epoch s.interval ≡ true = at.0 in
    let active : is_active s.status ≡ true = sym (active_is s.status) ∙ at.1 in
    let h = acknowledges c.args.table.now n.number c.args.ack.sender s (ANode c.args.ack.sender) c.args.ack.epoch c.args.ack.length refl same active in
    let acked : c.in_ok-acked.acked.items ≡ lengths =
    c.in_ok-acked.ensures.ok ∙ ap (λ w. raised c.args.ack.sender c.args.ack.length w c.deref.result.now) c.acting-acting.ensures
    ∙ ap (raised c.args.ack.sender c.args.ack.length c.self.inside.members.acting) c.deref.ensures.value
    ∙ ap (λ z. raised c.args.ack.sender c.args.ack.length z.state.members.acting z.state.acked) c.self.view_is in
    let least : c.least_of.result ≡ least_of (length s.log) lengths =
    c.least_of.ensures.value ∙ ap (least_of c.len.result) (c.deref-2.ensures.value ∙ acked)
    ∙ ap (λ j. least_of j lengths) (c.len.ensures.value ∙ ap (λ z. length z.state.log) c.self.view_is) in
    let point : c.max-point.result ≡ max s.committed (least_of (length s.log) lengths) =
    c.max-point.ensures ∙ ap (λ z. max z.state.committed c.least_of.result) c.self.view_is ∙ ap (max s.committed) least in
    record {
      number = ap (λ z. z.number) c.self.view_is;
      state = (λ i. record ((c.self.view_is i).state) { committed = point i; acked = acked i }) ∙ ap (λ o. o.node) h;
      sent = c.in_ok-sent.ensures.ok
          ∙ ap (λ z. replies_from c.args.table.now z.number z.state.log z.state.committed (drop z.state.committed (take c.max-point.result z.state.log))) c.self.view_is
          ∙ ap (λ j. replies_from c.args.table.now n.number s.log s.committed (drop s.committed (take j s.log))) point ∙ ap (λ o. o.sent) h;
      unrefused = ap (λ o. o.refusal) (sym h);
    }

pub returns-then-not-is_at-clause-done : goal.returns-then-not-is_at-clause-done
returns-then-not-is_at-clause-done g c =
    let n = c.args.self.now in
    let s = n.state in
    let tested = c.is_at.ensures in
    let apart : (eqb c.args.ack.epoch s.interval && is_active s.status) ≡ false =
    ap (λ b. eqb c.args.ack.epoch s.interval && b) (sym (active_is s.status)) ∙ sym tested ∙ c.if-not-is_at.true in
    let h = acknowledges_not c.args.table.now n.number c.args.ack.sender s (ANode c.args.ack.sender) c.args.ack.epoch c.args.ack.length refl apart in
    record {
      number = refl;
      state = ap (λ o. o.node) h;
      sent = c.new.ensures.items ∙ ap (λ o. o.sent) h;
      unrefused = ap (λ o. o.refusal) (sym h);
    }

pub invariant_of-self : goal.invariant_of-self
invariant_of-self g c = grind (arith, common_steps)

pub replies-requires-clause-within : goal.replies-requires-clause-within
replies-requires-clause-within g c = grind (arith, common_steps)

pub same-self-in_err-sent : goal.same-self-in_err-sent
same-self-in_err-sent g c = grind (arith, common_steps)
