use Rattle.std.proofs.Common.{◌∙◌}
use Rattle.osd.proofs.Sending.{only_none, only_any, only_from, only_several}
use Rattle.osd.proofs.running.Running.send.Goals as goal

pub returns-in_default : goal.returns-in_default
returns-in_default g c = only_none _ _

-- what is due, the same again, and what was late
pub returns-in-Some-late : goal.returns-in-Some-late
returns-in-Some-late g c = only_from _ _ _ _ (c.worker.view_is ∙ c.due-now.ensures) (only_several _ _ _ _ (only_any _ _ _ c.deliver.ensures) (only_several _ _ _ _ (only_any _ _ _ c.deliver-2.ensures) (only_any _ _ _ c.deliver-in-Some-late.ensures)))

pub returns-in_default-late : goal.returns-in_default-late
returns-in_default-late g c = only_from _ _ _ _ (c.worker.view_is ∙ c.due-now.ensures) (only_several _ _ _ _ (only_any _ _ _ c.deliver.ensures) (only_any _ _ _ c.deliver-2.ensures))
