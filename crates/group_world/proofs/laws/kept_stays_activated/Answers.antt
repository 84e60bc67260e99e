use Rattle.group_world.proofs.Activating.{kept_stays}
use Rattle.group_world.proofs.laws.kept_stays_activated.Goals as goal

pub returns : goal.returns
returns c = kept_stays
