use Rattle.std.proofs.Common.{◌≡◌, Result, IfOk, Vec, Global, subst, ap, sym, ◌∙◌, ◌++◌, ◌∷◌, []}
use Rattle.group_world.specs.Node.{Outcome, and_sends, nothing, packet}
use Rattle.group_world.specs.Rules.{replicate}
use Rattle.group_world.specs.declared.message.MessageKind.TheVariants.{Ack}
use Rattle.group_world.specs.declared.message.Packet.{Packet}
use Rattle.group_world.specs.declared.handle_error.HandleError.{HandleError}
use Rattle.peering.specs.inner.Arriving.{acks_if}
use Rattle.peering.specs.Numbered.{IsDone}
use Rattle.peering.proofs.node.GroupNode.replicate.Goals as goal
use Rattle.peering.proofs.node.GroupNode.replicate.Goals.{in-None, in-Some}

pub returns-clause-done : goal.returns-clause-done
returns-clause-done g c =
    let n = c.args.self.now in
    let z = c.takes_rep.new.self in
    let rep = c.args.rep in
    let rule : Outcome = replicate c.args.table.now n.number n.state c.args.sender rep.epoch rep.place rep.request in
    let P : Result (Vec Packet Global) HandleError → Type 0 = λ r. IfOk r (λ sent. IsDone n z sent.items rule) in
    let number : z.number ≡ n.number = c.in_ok-takes_rep.ensures.number in
    elim c.match-branch-3.branch [
      | in-None w ↦
          let h : nothing z.state ≡ rule = ap (acks_if n.number c.args.sender z.state) (sym w.in-None.is) ∙ c.in_ok-takes_rep.ensures.acks c.args.sender in
          subst P (sym w.result-is) (record {
            number = number;
            state = ap (λ o. o.node) h;
            sent = c.in_ok-sent.ensures.items ∙ ap (λ o. o.sent) h;
            unrefused = ap (λ o. o.refusal) (sym h);
          })
      | in-Some w ↦
          let k = w.in-Some.length in
          let ack : Outcome = and_sends (nothing z.state) (packet n.number c.args.sender (Ack z.state.interval k)) in
          let h : ack ≡ rule = ap (acks_if n.number c.args.sender z.state) (sym w.in-Some.is) ∙ c.in_ok-takes_rep.ensures.acks c.args.sender in
          let said : w.packet.result ≡ packet n.number c.args.sender (Ack z.state.interval k) =
          w.packet.ensures ∙ ap (λ v. packet v.number c.args.sender (Ack v.state.interval k)) c.self-2.view_is ∙ ap (λ j. packet j c.args.sender (Ack z.state.interval k)) number in
          subst P (sym w.result-is) (record {
            number = number;
            state = ap (λ o. o.node) h;
            sent = w.push_reserved.ensures.items ∙ ap (λ ps. ps ++ w.packet.result ∷ []) c.in_ok-sent.ensures.items ∙ ap (λ p. p ∷ []) said ∙ ap (λ o. o.sent) h;
            unrefused = ap (λ o. o.refusal) (sym h);
          })
    ]
