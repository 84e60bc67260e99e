use Rattle.std.proofs.Common.{◌≡◌, List, subst, sym}
use mathlib.Core.List.{IsPrefix}
use Rattle.pg_log.specs.Requests.{ClientRequest}
use Rattle.peering.proofs.Following.{beginning_runs}
use Rattle.peering.proofs.node.GroupNode.has_run.Goals as goal

pub returns-clause-beginning : goal.returns-clause-beginning
returns-clause-beginning g c = λ begins.
    let log : c.group.result.now ≡ c.args.self.now.state.log = c.group.ensures in
    let P : List ClientRequest → Type 0 = λ l. IsPrefix c.args.list.now l in
    c.begins_with.ensures.1 (subst P (sym log) begins)

pub returns-clause-runs : goal.returns-clause-runs
returns-clause-runs g c = λ classes legal h.
    let log : c.group.result.now ≡ c.args.self.now.state.log = c.group.ensures in
    let P : List ClientRequest → Type 0 = λ l. IsPrefix c.args.list.now l in
    beginning_runs c.legal_lists.ensures.beginnings c.refusals.ensures.lists classes c.args.list.now c.args.self.now.state.log
    (subst P log (c.begins_with.ensures.0 h)) legal
