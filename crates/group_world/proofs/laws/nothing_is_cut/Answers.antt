use Rattle.group_world.proofs.Growing.{all_steps}
use Rattle.group_world.proofs.laws.nothing_is_cut.Goals as goal

pub returns : goal.returns
returns c = all_steps
