use Rattle.std.proofs.Common.{◌≡◌, ◌&&◌, true, false, ap, eqb, length, refl, sym, ◌∙◌}
use Rattle.std.proofs.lemmas.Bool.{and_parts}
use Rattle.group_world.specs.Node.{is_installing}
use Rattle.group_world.specs.Rules.{each_at}
use Rattle.group_world.specs.declared.status.Status.TheVariants.{Active}
use Rattle.peering.proofs.Statuses.{activates, activates_not, installing_is}
use Rattle.peering.proofs.node.GroupNode.activate.Goals as goal

pub returns-clause-done : goal.returns-clause-done
returns-clause-done g c =
    let s = c.args.self.now.state in
    let at = and_parts _ _ (sym c.is_at.ensures ∙ c.if-not-is_at.false) in
    let same : eqb c.args.interval s.interval ≡ true = at.0 in
    let installing : is_installing s.status ≡ true = sym (installing_is s.status) ∙ at.1 in
    let h = activates s c.args.interval same installing in
    let all : c.len-length.result ≡ length s.log = c.len-length.ensures.value ∙ ap (λ z. length z.state.log) c.self.view_is in
    let acked : c.in_ok-acked.acked.items ≡ each_at s.members.acting (length s.log) =
    c.in_ok-acked.ensures.ok ∙ ap (λ w. each_at w c.len-length.result) c.acting.ensures
    ∙ ap (λ z. each_at z.state.members.acting c.len-length.result) c.self.view_is ∙ ap (each_at s.members.acting) all in
    record {
      number = ap (λ z. z.number) c.self.view_is;
      state = (λ i. record ((c.self.view_is i).state) { status = Active; committed = all i; acked = acked i }) ∙ ap (λ o. o.node) h;
      sent = c.new-2.ensures.items ∙ ap (λ o. o.sent) h;
      unrefused = ap (λ o. o.refusal) (sym h);
    }

pub returns-then-not-is_at-clause-done : goal.returns-then-not-is_at-clause-done
returns-then-not-is_at-clause-done g c =
    let s = c.args.self.now.state in
    let apart : (eqb c.args.interval s.interval && is_installing s.status) ≡ false =
    ap (λ b. eqb c.args.interval s.interval && b) (sym (installing_is s.status)) ∙ sym c.is_at.ensures ∙ c.if-not-is_at.true in
    let h = activates_not s c.args.interval apart in
    record {
      number = refl;
      state = ap (λ o. o.node) h;
      sent = c.new.ensures.items ∙ ap (λ o. o.sent) h;
      unrefused = ap (λ o. o.refusal) (sym h);
    }
