use Rattle.loop_calls.specs.declared.method.BudgetedMethod.{BudgetedMethod}
use Rattle.loop_objects.proofs.Methods.{budget_of, budgeted}
use Rattle.loop_objects.proofs.calls.budgeted.Goals as goal

pub returns-clause-runs : goal.returns-clause-runs
returns-clause-runs c =
    let m = c.args.method.now in
    let given : BudgetedMethod = record { caps = c.caps.result; budget = c.budget.result; ops = c.ops.result } in
    budgeted m c.args.run.now m.loops c.requires.runs c.requires.method given c.caps.ensures c.budget.ensures c.ops.ensures.ops c.ops.ensures.pairs

pub returns-clause-declared : goal.returns-clause-declared
returns-clause-declared c = λ l is. budget_of c.args.method.now c.args.run.now c.args.method.now.loops c.requires.runs c.budget.result c.budget.ensures l is
