use Rattle.osd.proofs.Sending.{only_none, only_several}
use Rattle.osd.proofs.running.Running.turn.Goals as goal

pub loop-outgoing-init : goal.loop-outgoing-init
loop-outgoing-init g c = only_none _ _

pub loop-outgoing-preserved : goal.loop-outgoing-preserved
loop-outgoing-preserved g c = only_several _ _ _ _ c.loop-outgoing.invariant c.send.ensures
