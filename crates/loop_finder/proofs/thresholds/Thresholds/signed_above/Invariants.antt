use Rattle.std.proofs.Common.{◌≤ℤ◌}
use Rattle.loop_finder.proofs.thresholds.Thresholds.signed_above.Given as goal

abbrev pub invariant-loop-threshold : goal.invariant-loop-threshold
invariant-loop-threshold l = l.number ≤ℤ l.least
