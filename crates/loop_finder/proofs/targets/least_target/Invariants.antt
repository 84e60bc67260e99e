use Rattle.loop_finder.proofs.Jumps.{Searched}
use Rattle.loop_finder.proofs.targets.least_target.Given as goal

abbrev pub invariant-loop-slot : goal.invariant-loop-slot
invariant-loop-slot l = Searched l.code l.fn.least l.slot l.first
