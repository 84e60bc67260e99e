use Rattle.loop_machine.proofs.One.{ends_are_one, runs_by_budget_are_one}
use Rattle.loop_machine.proofs.laws.one_end.Goals as goal

pub returns-clause-ends : goal.returns-clause-ends
returns-clause-ends c = ends_are_one

pub returns-clause-runs : goal.returns-clause-runs
returns-clause-runs c = runs_by_budget_are_one
