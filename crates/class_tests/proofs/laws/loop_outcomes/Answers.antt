use Rattle.class_tests.proofs.Spending.{loop_outcomes_are_one}
use Rattle.class_tests.proofs.laws.loop_outcomes.Goals as goal

pub returns : goal.returns
returns c = loop_outcomes_are_one c.outcomes.ensures c.layouts.ensures c.other_runs.ensures.unfinished
