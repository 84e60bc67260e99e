use Rattle.std.proofs.Common.{◌≡◌, ◌≤◌, length, take}
use Rattle.object_store.specs.Extents.{flat, AreFull}
use Rattle.object_store.proofs.extents.before.Given as goal

abbrev pub invariant-loop-i : goal.invariant-loop-i
invariant-loop-i l = record {
  place : l.start ≡ length (flat (take l.i l.parts));
  low : l.start ≤ l.at;
  full : AreFull (take l.i l.parts);
}
