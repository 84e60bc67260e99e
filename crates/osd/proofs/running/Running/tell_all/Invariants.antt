use Rattle.osd.specs.Sent.{OnlySent, IsAny}
use Rattle.osd.proofs.running.Running.tell_all.Given as goal

abbrev pub invariant-loop-group : goal.invariant-loop-group
invariant-loop-group g l = OnlySent l.initial.sends l.sends IsAny
