use Rattle.std.proofs.Common.{ℕ, List, true, cond, ◌≡◌, ◌≤◌, length, is_none, ap, sym, ◌∙◌, subst}
use Rattle.pg_log.specs.Requests.{ClientRequest}
use Rattle.peering_messages.specs.Sending.{IsLegalBy}
use Rattle.pg_log.specs.Refusals.{first_refusal}
use Rattle.group_world.specs.Node.{committed_list}
use Rattle.group_world.specs.Rules.{begins}
use Rattle.peering.specs.inner.Arriving.{with_log}
use Rattle.peering.proofs.Installing.{and_true}
use Rattle.peering.proofs.node.GroupNode.take_list.Goals as goal

pub returns-clause-usable : goal.returns-clause-usable
returns-clause-usable g c =
    let list = c.args.list.now in
    let n = c.args.self.now in
    let kept : begins (committed_list n.state) list ≡ true =
    ap (begins (committed_list n.state)) (sym c.items.ensures) ∙ sym c.keeps_committed.ensures.value ∙ c.if-not-keeps_committed.false in
    sym c.if-not-branch.false ∙ c.in_ok-become_list.ensures.legal
    ∙ ap (λ l. is_none (first_refusal c.args.table.now l)) c.items-2.ensures
    ∙ and_true (is_none (first_refusal c.args.table.now list)) (begins (committed_list n.state) list) kept

pub returns-clause-taken : goal.returns-clause-taken
returns-clause-taken g c =
    let log : c.become_list.new.group ≡ c.args.list.now =
    c.in_ok-become_list.ensures.taken ∙ ap (λ b. cond b c.items-2.result.now c.self.inside.group) c.if-not-branch.false ∙ c.items-2.ensures in
    λ i. with_log (c.self.view_is i) (log i)

pub returns-clause-status : goal.returns-clause-status
returns-clause-status g c = ap (λ n. n.state.status) c.self.view_is

pub become_list-requires-clause-legal : goal.become_list-requires-clause-legal
become_list-requires-clause-legal g c =
    let L : List ClientRequest → Type 0 = IsLegalBy c.args.table.now g.C.Classes.classes in
    subst L (sym (ap (λ n. n.state.log) c.self.view_is)) c.requires

pub become_list-requires-clause-list : goal.become_list-requires-clause-list
become_list-requires-clause-list g c =
    let P : ℕ → Type 0 = λ k. k ≤ length c.items-2.result.now in
    let first : c.args.self.now.state.committed ≤ length c.items.result.now = c.keeps_committed.ensures.within c.if-not-keeps_committed.false in
    let Q : List ClientRequest → Type 0 = λ l. c.args.self.now.state.committed ≤ length l in
    subst P (sym (ap (λ n. n.state.committed) c.self.view_is)) (subst Q (c.items.ensures ∙ sym c.items-2.ensures) first)
