use Rattle.std.proofs.Common.{◌≡◌, drop}
use Rattle.loop_heads.specs.Loops.{heads_refusal}
use Rattle.loop_heads.proofs.loops.heads_refusal.Given as goal

abbrev pub invariant-loop-head : goal.invariant-loop-head
invariant-loop-head l = heads_refusal l.least (drop l.head-index l.heads) ≡ heads_refusal 0 l.heads
