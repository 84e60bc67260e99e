use Rattle.std.proofs.Common.{◌≡◌, ℕ, ◌+◌, ◌∙◌, ap, length, max, arith}
use Rattle.std.proofs.lemmas.Grind.{common_steps}
use Rattle.group_world.specs.Rules.{least_of, raised}
use Rattle.peering.proofs.Growing.{grown_is}
use Rattle.peering.proofs.node.GroupNode.commit_new.Goals as goal

pub returns-clause-ok : goal.returns-clause-ok
returns-clause-ok g c =
    let n = c.args.self.now in
    let k : ℕ = c.len-length.result + 1 in
    let longer : k ≡ length n.state.log + 1 = ap (λ j. j + 1) (c.len-length.ensures.value ∙ ap (λ z. length z.state.log) c.self.view_is) in
    let acked : c.in_ok-acked.acked.items ≡ raised n.number k n.state.members.acting n.state.acked =
    c.in_ok-acked.ensures.ok ∙ ap (λ w. raised c.self.inside.number k w c.deref.result.now) c.acting-acting.ensures
    ∙ ap (raised c.self.inside.number k c.self.inside.members.acting) c.deref.ensures.value
    ∙ ap (λ z. raised z.number k z.state.members.acting z.state.acked) c.self.view_is in
    let point : c.max-point.result ≡ max n.state.committed (least_of k c.in_ok-acked.acked.items) =
    c.max-point.ensures ∙ ap (max c.self.inside.committed) (c.least_of.ensures.value ∙ ap (least_of k) c.deref-2.ensures.value)
    ∙ ap (λ z. max z.state.committed (least_of k c.in_ok-acked.acked.items)) c.self.view_is in
    grown_is c.args.table.now n.number k n.state c.args.entry.now.request (record { acked = c.in_ok-acked.acked; point = c.max-point.result; sent = c.in_ok-sent.sent }) longer acked point c.in_ok-sent.ensures.ok

pub sent_with-requires-clause-within : goal.sent_with-requires-clause-within
sent_with-requires-clause-within g c = grind (arith, common_steps)

pub returns-clause-within : goal.returns-clause-within
returns-clause-within g c = grind (arith, common_steps)
