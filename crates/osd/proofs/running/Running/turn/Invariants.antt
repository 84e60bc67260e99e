use Rattle.osd.specs.Sent.{OnlySent, IsAny}
use Rattle.osd.proofs.running.Running.turn.Given as goal

abbrev pub invariant-loop-outgoing : goal.invariant-loop-outgoing
invariant-loop-outgoing g l = OnlySent l.initial.worker l.worker IsAny
