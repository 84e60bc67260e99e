use Rattle.placement.proofs.ActingSets.{acting_sets-may_act}
use Rattle.placement.proofs.laws.acting_sets.Goals as goal

pub returns : goal.returns
returns c = acting_sets-may_act
