use Rattle.osd.specs.Sent.{OnlySent, IsInternalTo}
use Rattle.osd.proofs.running.Running.send_again.Given as goal

abbrev pub invariant-loop-outgoing : goal.invariant-loop-outgoing
invariant-loop-outgoing g l = OnlySent l.initial.sends l.sends (IsInternalTo l.group)
