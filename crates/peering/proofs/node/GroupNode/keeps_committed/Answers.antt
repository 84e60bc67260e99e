use Rattle.std.proofs.Common.{◌≡◌, ◌≤◌, ℕ, ap, ◌∙◌, take, length, sym, arith}
use Rattle.std.proofs.lemmas.Grind.{common_steps}
use Rattle.std.proofs.lemmas.List.{length-take-le}
use Rattle.pg_log.specs.Entries.{requests_of}
use Rattle.group_world.specs.Node.{committed_list}
use Rattle.group_world.specs.Rules.{begins}
use Rattle.peering.proofs.Lists.{take_requests, begins_within, length_requests}
use Rattle.peering.proofs.node.GroupNode.keeps_committed.Goals as goal

pub returns-clause-value : goal.returns-clause-value
returns-clause-value g c =
    let k = c.self.inside.committed in
    c.begins_with.ensures
    ∙ ap (λ x. begins x c.args.list.now) (take_requests k c.entries.result.now ∙ ap (take k) c.entries.ensures.requests)
    ∙ ap (λ n. begins (committed_list n.state) c.args.list.now) c.self.view_is

pub returns-clause-within : goal.returns-clause-within
returns-clause-within g c = λ h.
    let es = c.entries.result.now in
    let k : ℕ = c.self.inside.committed in
    let a : length (requests_of (take k es)) ≤ length c.args.list.now = begins_within (requests_of (take k es)) c.args.list.now (sym c.begins_with.ensures ∙ h) in
    let b : length (requests_of (take k es)) ≡ length (take k es) = length_requests (take k es) in
    let e : length (requests_of es) ≡ length es = length_requests es in
    let f : length (requests_of es) ≡ length c.self.inside.group = ap length c.entries.ensures.requests in
    let i : k ≤ length c.self.inside.group = c.self.invariant.0 in
    let l : k ≤ length es = omega arith in
    let t : length (take k es) ≡ k = length-take-le k es l in
    let v : k ≡ c.args.self.now.state.committed = ap (λ n. n.state.committed) c.self.view_is in
    omega arith

pub slice_bounds-begins_with-end : goal.slice_bounds-begins_with-end
slice_bounds-begins_with-end g c = grind (arith, common_steps)
