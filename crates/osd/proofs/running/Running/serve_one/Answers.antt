use Rattle.std.proofs.Common.{◌∙◌}
use Rattle.osd.proofs.Sending.{only_same, only_from}
use Rattle.osd.proofs.running.Running.serve_one.Goals as goal

pub returns-in_default : goal.returns-in_default
returns-in_default g c = only_same _ _ _ c.worker.view_is

pub returns : goal.returns
returns g c = only_from _ _ _ _ (c.may_go_on-goes_on.ensures ∙ c.worker.view_is) c.turn.ensures
