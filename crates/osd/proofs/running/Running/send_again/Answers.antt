use Rattle.osd.proofs.Sending.{only_none, only_same, only_from, only_several}
use Rattle.osd.proofs.running.Running.send_again.Goals as goal

pub returns-in_default : goal.returns-in_default
returns-in_default g c = only_none _ _

pub loop-outgoing-init : goal.loop-outgoing-init
loop-outgoing-init g c = only_none _ _

pub loop-outgoing-preserved : goal.loop-outgoing-preserved
loop-outgoing-preserved g c = only_several _ _ _ _ c.loop-outgoing.invariant (only_from _ _ _ _ c.may_go_out.ensures c.deliver.ensures)

pub returns-then-not-may_go_out : goal.returns-then-not-may_go_out
returns-then-not-may_go_out g c = only_several _ _ _ _ (only_same _ _ _ c.room-room.ensures) (only_several _ _ _ _ c.loop-outgoing.invariant (only_same _ _ _ c.may_go_out.ensures))
