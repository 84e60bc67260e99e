use Rattle.std.proofs.Common.{refl}
use Rattle.osd.proofs.Sending.{only_none, only_that}
use Rattle.osd.proofs.running.Running.deliver.Goals as goal

pub returns-in-ToNode : goal.returns-in-ToNode
returns-in-ToNode g c = only_that _ _ _ _ (refl, tt) c.submit.ensures.only

pub returns-in_default : goal.returns-in_default
returns-in_default g c = only_none _ _

pub returns-in-ToClient : goal.returns-in-ToClient
returns-in-ToClient g c = only_none _ _
