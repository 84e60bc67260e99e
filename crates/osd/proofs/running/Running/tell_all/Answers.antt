use Rattle.osd.proofs.Sending.{only_none, only_any, only_several}
use Rattle.osd.proofs.running.Running.tell_all.Goals as goal

pub loop-group-init : goal.loop-group-init
loop-group-init g c = only_none _ _

pub loop-group-preserved : goal.loop-group-preserved
loop-group-preserved g c = only_several _ _ _ _ c.loop-group.invariant (only_any _ _ _ c.tell_group.ensures)
