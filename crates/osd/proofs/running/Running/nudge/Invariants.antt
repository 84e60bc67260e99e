use Rattle.osd.specs.Sent.{OnlySent, IsInternalTo}
use Rattle.osd.proofs.running.Running.nudge.Given as goal

abbrev pub invariant-loop-place : goal.invariant-loop-place
invariant-loop-place g l = OnlySent l.initial.sends l.sends (IsInternalTo l.group)

abbrev pub invariant-loop-place-2 : goal.invariant-loop-place-2
invariant-loop-place-2 g l = OnlySent l.initial.sends l.sends (IsInternalTo l.group)
