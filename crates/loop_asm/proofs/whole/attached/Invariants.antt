use Rattle.std.proofs.Common.{◌≡◌, ◌++◌, drop}
use Rattle.loop_asm.specs.Classes.{attached}
use Rattle.loop_asm.proofs.whole.attached.Given as goal

-- those so far and what is made of those left are all
abbrev pub invariant-loop-index : goal.invariant-loop-index
invariant-loop-index l = l.all.items ++ attached (drop l.index l.methods) (drop l.index l.loops) ≡ attached l.methods l.loops
