use Rattle.std.proofs.Common.{◌≡◌, map, take}
use Rattle.std.specs.FinMap as fin
use Rattle.part_bytes.specs.View.{entry_view}
use Rattle.loop_objects.specs.inner.Whole.{names}
use Rattle.loop_objects.proofs.whole.names_of.Given as goal

abbrev pub invariant-loop-n : goal.invariant-loop-n
invariant-loop-n l = map entry_view l.entries.items ≡ take l.n (fin.entries (names l.named l.object))
