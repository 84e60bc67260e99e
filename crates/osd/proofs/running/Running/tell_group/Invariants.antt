use Rattle.osd.specs.Sent.{OnlySent, IsInternalTo}
use Rattle.osd.proofs.running.Running.tell_group.Given as goal

abbrev pub invariant-loop-place : goal.invariant-loop-place
invariant-loop-place g l = OnlySent l.initial.sends l.sends (IsInternalTo l.group)
