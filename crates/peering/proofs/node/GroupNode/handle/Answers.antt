use Rattle.std.proofs.Common.{List, ap, sym, subst}
use Rattle.pg_log.specs.Requests.{ClientRequest}
use Rattle.pg_log.specs.Log.{Legal}
use Rattle.peering.proofs.Keeping.{Laws, step_legal}
use Rattle.peering.proofs.node.GroupNode.handle.Goals as goal

pub returns-clause-legal : goal.returns-clause-legal
returns-clause-legal g c =
    let laws : Laws = record { empty = c.legal_lists.ensures.empty; append = c.legal_lists.ensures.append; exact = c.refusals.ensures.requests; lists = c.refusals.ensures.lists } in
    let n = c.args.self.now in
    let L : List ClientRequest → Type 0 = Legal c.args.table.now in
    subst L (sym (ap (λ s. s.log) c.in_ok-sent.ensures.done.state)) (step_legal laws c.args.table.now n.number n.state c.args.event c.requires.legal)

pub returns-in_err-sent-clause-legal : goal.returns-in_err-sent-clause-legal
returns-in_err-sent-clause-legal g c =
    let L : List ClientRequest → Type 0 = Legal c.args.table.now in
    subst L (sym (ap (λ n. n.state.log) c.in_err-sent.ensures.refused)) c.requires.legal
