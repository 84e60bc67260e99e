use Rattle.std.proofs.Common.{◌≡◌, take}
use Rattle.loop_finder.specs.Found.{head_slots}
use Rattle.loop_finder.proofs.finder.heads_of.Given as goal

abbrev pub invariant-loop-number : goal.invariant-loop-number
invariant-loop-number l = head_slots l.heads.items ≡ take l.number l.targets
