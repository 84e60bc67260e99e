use Rattle.std.proofs.Common.{◌≡◌, drop}
use Rattle.loop_heads.specs.Loops.{are_places}
use Rattle.loop_heads.proofs.head.Head.is_head.Given as goal

abbrev pub invariant-loop-place : goal.invariant-loop-place
invariant-loop-place l = are_places l.least (drop l.place-index l.self.places) ≡ are_places 0 l.self.places
