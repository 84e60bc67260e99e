use Rattle.osd.proofs.Sending.{only_none, only_several}
use Rattle.osd.proofs.running.Running.tell_group.Goals as goal

pub returns-then-not-is_new_interval : goal.returns-then-not-is_new_interval
returns-then-not-is_new_interval g c = only_none _ _

pub loop-place-init : goal.loop-place-init
loop-place-init g c = only_none _ _

pub loop-place-preserved : goal.loop-place-preserved
loop-place-preserved g c = only_several _ _ _ _ c.loop-place.invariant c.tell_at.ensures
