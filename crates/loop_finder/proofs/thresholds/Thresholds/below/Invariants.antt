use Rattle.std.proofs.Common.{◌≤◌}
use Rattle.loop_finder.proofs.thresholds.Thresholds.below.Given as goal

abbrev pub invariant-loop-threshold : goal.invariant-loop-threshold
invariant-loop-threshold l = l.greatest ≤ l.number
