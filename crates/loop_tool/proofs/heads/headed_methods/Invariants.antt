use Rattle.std.proofs.Common.{take}
use Rattle.loop_tool.specs.Heads.{AreHeaded}
use Rattle.loop_tool.proofs.heads.headed_methods.Given as goal

-- a method for each so far
abbrev pub invariant-loop-method : goal.invariant-loop-method
invariant-loop-method l = AreHeaded l.budget (take l.method-index l.methods) l.headed.items
