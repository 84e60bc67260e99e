use Rattle.loop_machine.proofs.Safe.{never_stuck_is_safe}
use Rattle.loop_machine.proofs.laws.budgets.Goals as goal

pub returns : goal.returns
returns c = never_stuck_is_safe c.edits_make.ensures
