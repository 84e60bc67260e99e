use Rattle.loop_objects.proofs.Methods.{without}
use Rattle.loop_objects.proofs.laws.answers_without_loops.Goals as goal

pub returns : goal.returns
returns c = without
