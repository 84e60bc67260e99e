use Rattle.std.proofs.Common.{take}
use Rattle.cluster_tool.specs.Callers.{HasCalled}
use Rattle.cluster_tool.proofs.caller.Caller.call_all.Given as goal

-- the client made its calls of the steps so far
abbrev pub invariant-loop-step : goal.invariant-loop-step
invariant-loop-step g l = HasCalled g.N.Classes.classes (take l.step-index l.steps) l.initial.self l.self
