use Rattle.std.proofs.Common.{◌≡◌, length, take}
use Rattle.object_store.specs.Extents.{flat}
use Rattle.object_store.proofs.extents.past.Given as goal

abbrev pub invariant-loop-i : goal.invariant-loop-i
invariant-loop-i l = l.start ≡ length (flat (take l.i l.parts))
