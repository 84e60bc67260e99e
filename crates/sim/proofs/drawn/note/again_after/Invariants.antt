use Rattle.sim.proofs.drawn.note.again_after.Given as goal
use denote.Shadow.{shadow}
use denote.Text.{Utf8}

-- the part before the next number is text
abbrev pub invariant-loop-number : goal.invariant-loop-number
invariant-loop-number l = shadow (Utf8 l.before)
