use Rattle.osd.proofs.Sending.{only_none}
use Rattle.osd.proofs.running.Running.submit.Goals as goal

pub returns-in_default-clause-only : goal.returns-in_default-clause-only
returns-in_default-clause-only g c = only_none _ _
