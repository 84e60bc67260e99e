use Rattle.std.proofs.Common.{◌≡◌, take}
use Rattle.loop_heads.proofs.loops.copy_heads.Given as goal

abbrev pub invariant-loop-head : goal.invariant-loop-head
invariant-loop-head l = l.copies.items ≡ take l.head-index l.heads
