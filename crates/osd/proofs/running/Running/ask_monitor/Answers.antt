use Rattle.std.proofs.Common.{refl}
use Rattle.osd.proofs.Sending.{only_none, only_that}
use Rattle.osd.proofs.running.Running.ask_monitor.Goals as goal

pub returns-then-group-self : goal.returns-then-group-self
returns-then-group-self g c = only_none _ _

pub returns : goal.returns
returns g c = only_that _ _ _ _ (refl, tt) c.submit.ensures.only
