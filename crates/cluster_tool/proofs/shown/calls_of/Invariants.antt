use Rattle.std.proofs.Common.{◌≡◌, ◌++◌, drop, map}
use Rattle.cluster_file.specs.Plan.{calls_of}
use Rattle.cluster_tool.proofs.shown.calls_of.Given as goal

-- the calls so far and those that are left
abbrev pub invariant-loop-step : goal.invariant-loop-step
invariant-loop-step l = map (λ c. c.now) l.calls.items ++ calls_of l.client (drop l.step-index l.steps) ≡ calls_of l.client l.steps
