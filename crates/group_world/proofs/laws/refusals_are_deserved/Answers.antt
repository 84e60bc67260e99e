use Rattle.group_world.proofs.Deserving.{all_deserved}
use Rattle.group_world.proofs.laws.refusals_are_deserved.Goals as goal

pub returns : goal.returns
returns c = all_deserved
