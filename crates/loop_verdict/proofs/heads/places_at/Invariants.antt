use Rattle.std.proofs.Common.{◌≡◌, drop}
use Rattle.loop_heads.specs.Loops.{head_at}
use Rattle.loop_verdict.proofs.heads.places_at.Given as goal

-- what is left of the heads has at the slot what all have
abbrev pub invariant-loop-head : goal.invariant-loop-head
invariant-loop-head l = head_at (drop l.head-index l.heads) l.slot ≡ head_at l.heads l.slot
