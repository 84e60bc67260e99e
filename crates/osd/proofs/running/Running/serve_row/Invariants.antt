use Rattle.osd.specs.Sent.{OnlySent, IsAny}
use Rattle.osd.proofs.running.Running.serve_row.Given as goal

abbrev pub invariant-loop : goal.invariant-loop
invariant-loop g l = OnlySent l.initial.worker l.worker IsAny
