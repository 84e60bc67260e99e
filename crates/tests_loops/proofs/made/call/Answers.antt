use Rattle.std.proofs.Common.{ap, ◌∙◌, sym, subst}
use Rattle.bpf_ops.specs.Op.{PairsHold}
use Rattle.loop_machine.specs.Runs.{IsSafeByBudget}
use Rattle.tests_loops.proofs.made.call.Goals as goal

pub call_by_budget-requires-clause-method : goal.call_by_budget-requires-clause-method
call_by_budget-requires-clause-method c =
    let accepted = c.ops.ensures.accepted in
    let m = accepted.0 in
    let same = accepted.1 in
    let safe = accepted.2 in (
      m,
      record {
        method = safe.method;
        safe = subst (IsSafeByBudget m) (sym c.budget.ensures) safe.safe;
        caps = c.caps-2.ensures ∙ ap (λ it. it.caps) same;
        ops = c.ops.ensures.ops ∙ ap (λ it. it.code) same;
        pairs = subst (λ code. PairsHold code c.ops.result.now) (ap (λ it. it.code) same) c.ops.ensures.pairs;
      },
    )
