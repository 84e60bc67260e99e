use Rattle.std.proofs.Common.{◌≤◌, length}
use Rattle.sim.proofs.drawn.chart.push_steps.Given as goal

-- there are as many messages as the steps so far sent
abbrev pub invariant-loop-step : goal.invariant-loop-step
invariant-loop-step l = l.first ≤ length l.messages
