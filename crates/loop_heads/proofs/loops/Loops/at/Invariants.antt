use Rattle.std.proofs.Common.{◌≡◌, drop}
use Rattle.loop_heads.specs.Loops.{head_at}
use Rattle.loop_heads.proofs.loops.Loops.at.Given as goal

abbrev pub invariant-loop-head : goal.invariant-loop-head
invariant-loop-head l = head_at (drop l.head-index l.self.heads) l.slot ≡ head_at l.self.heads l.slot
