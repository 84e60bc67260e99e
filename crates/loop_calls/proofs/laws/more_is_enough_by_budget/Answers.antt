use Rattle.loop_calls.proofs.LoopMore.{more_is_enough_by_budget}
use Rattle.loop_calls.proofs.laws.more_is_enough_by_budget.Goals as goal

pub returns : goal.returns
returns c = more_is_enough_by_budget
