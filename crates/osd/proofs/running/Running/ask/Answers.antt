use Rattle.osd.proofs.Sending.{only_grew, only_from}
use Rattle.osd.proofs.running.Running.ask.Goals as goal

pub returns-clause-grew : goal.returns-clause-grew
returns-clause-grew g c = only_grew _ _ _ (only_from _ _ _ _ c.has_room.ensures c.submit.ensures.only)
