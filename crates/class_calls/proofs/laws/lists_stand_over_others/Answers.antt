use Rattle.class_calls.proofs.Over.{made_is_edited, lists_stand}
use Rattle.class_calls.proofs.laws.lists_stand_over_others.Goals as goal

pub returns-clause-made : goal.returns-clause-made
returns-clause-made c = made_is_edited

pub returns-clause-stand : goal.returns-clause-stand
returns-clause-stand c = lists_stand
