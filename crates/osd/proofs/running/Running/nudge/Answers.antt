use Rattle.osd.specs.Sent.{IsInternalTo}
use Rattle.osd.proofs.Sending.{only_none, only_several, only_grew}
use Rattle.osd.proofs.running.Running.nudge.Goals as goal

pub returns-then-group-self-clause-grew : goal.returns-then-group-self-clause-grew
returns-then-group-self-clause-grew g c = only_grew (IsInternalTo c.args.group) _ _ (only_none _ _)

pub returns-then-group-self-clause-only : goal.returns-then-group-self-clause-only
returns-then-group-self-clause-only g c = only_none _ _

pub returns-in_default-clause-grew : goal.returns-in_default-clause-grew
returns-in_default-clause-grew g c = only_grew (IsInternalTo c.args.group) _ _ (only_none _ _)

pub returns-in_default-clause-only : goal.returns-in_default-clause-only
returns-in_default-clause-only g c = only_none _ _

pub loop-place-init : goal.loop-place-init
loop-place-init g c = only_none _ _

pub loop-place-preserved : goal.loop-place-preserved
loop-place-preserved g c = only_several _ _ _ _ c.loop-place.invariant c.tell_if_behind.ensures

pub loop-place-2-init : goal.loop-place-2-init
loop-place-2-init g c = only_none _ _

pub loop-place-2-preserved : goal.loop-place-2-preserved
loop-place-2-preserved g c = only_several _ _ _ _ c.loop-place-2.invariant c.send_again.ensures

pub returns-clause-grew : goal.returns-clause-grew
returns-clause-grew g c = only_grew (IsInternalTo c.args.group) _ _ (only_several _ _ _ _ c.loop-place.invariant c.loop-place-2.invariant)

pub returns-clause-only : goal.returns-clause-only
returns-clause-only g c = only_several _ _ _ _ c.loop-place.invariant c.loop-place-2.invariant
