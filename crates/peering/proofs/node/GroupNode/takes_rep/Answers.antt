use Rattle.std.proofs.Common.{◌≡◌, ◌&&◌, ℕ, Option, Result, IfOk, false, eqb, ap, sym, ◌∙◌, subst}
use Rattle.std.proofs.lemmas.Bool.{and_parts}
use Rattle.group_world.specs.Node.{NodeState, is_installed, nothing}
use Rattle.group_world.specs.Rules.{replicate}
use Rattle.group_world.specs.declared.handle_error.HandleError.{HandleError}
use Rattle.group_world.specs.declared.party.Party.{Party}
use Rattle.peering.specs.inner.Arriving.{acks_if}
use Rattle.peering.proofs.Statuses.{installed_is}
use Rattle.peering.proofs.Placing.{placed_ok, placed_not, placed_nowhere}
use Rattle.peering.proofs.node.GroupNode.takes_rep.Goals as goal
use Rattle.peering.proofs.node.GroupNode.takes_rep.Goals.{in-Ok, in-Err+else-is_memory}

pub returns-then-not-is_at-clause-acks : goal.returns-then-not-is_at-clause-acks
returns-then-not-is_at-clause-acks g c =
    let n = c.args.self.now in
    let s = n.state in
    let rep = c.args.rep in
    let tested = c.is_at.ensures in
    let apart : (eqb rep.epoch s.interval && is_installed s.status) ≡ false =
    ap (λ b. eqb rep.epoch s.interval && b) (sym (installed_is s.status)) ∙ sym tested ∙ c.if-not-is_at.true in
    λ sender. placed_nowhere c.args.table.now n.number s sender rep.epoch rep.place rep.request apart

pub returns-clause-acks : goal.returns-clause-acks
returns-clause-acks g c =
    let n = c.args.self.now in
    let s = n.state in
    let rep = c.args.rep in
    let own = c.self.inside in
    let new : NodeState = record { interval = own.interval; members = own.members; status = own.status; log = c.append_at.new.group; committed = own.committed; joined = own.joined.items; acked = own.acked.items } in
    let P : Result (Option ℕ) HandleError → Type 0 = λ w. IfOk w (λ length. (sender : Party) → acks_if n.number sender new length ≡ replicate c.args.table.now n.number s sender rep.epoch rep.place rep.request) in
    let tested = c.is_at.ensures in
    let at = and_parts _ _ (sym tested ∙ c.if-not-is_at.false) in
    let installed = sym (installed_is s.status) ∙ at.1 in
    let log = ap (λ v. v.state.log) c.self.view_is in
    elim c.match-append_at.branch [
      | in-Ok w ↦ subst P (sym w.result-is) (λ sender.
          placed_ok c.args.table.now n.number s new own.group sender rep.epoch rep.place rep.request w.in-Ok.length log at.0 installed
          (λ i. record ((c.self.view_is i).state) { log = w.in-Ok.ensures.ok i }) w.in-Ok.ensures.answer)
      | in-Err+else-is_memory w ↦ subst P (sym w.result-is) (λ sender.
          let kept = w.in-Err.ensures.refused ∙ log in
          (λ i. nothing (record ((c.self.view_is i).state) { log = kept i }))
          ∙ placed_not c.args.table.now n.number s own.group sender rep.epoch rep.place rep.request w.in-Err.error log at.0 installed
          (sym w.is_memory.ensures ∙ w.if-is_memory.false) w.in-Err.ensures.answer)
    ]
