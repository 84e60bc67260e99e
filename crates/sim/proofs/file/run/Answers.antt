use Rattle.sim.proofs.Reaching.{stops_first}
use Rattle.sim.proofs.file.run.Goals as goal

pub returns-in-Err : goal.returns-in-Err
returns-in-Err g c = stops_first _ _ _ _ _
