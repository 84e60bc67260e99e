use Rattle.loop_classes.proofs.Without.{without}
use Rattle.loop_classes.proofs.laws.without_loops.Goals as goal

pub returns : goal.returns
returns c = without
