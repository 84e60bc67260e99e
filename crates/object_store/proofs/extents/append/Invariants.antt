use Rattle.std.proofs.Common.{◌≡◌, ◌++◌, length, take}
use Rattle.object_store.specs.Extents.{flat, cut}
use Rattle.object_store.proofs.extents.append.Given as goal

abbrev pub invariant-loop-part : goal.invariant-loop-part
invariant-loop-part l = record {
  place : l.start ≡ length (flat (take l.part-index l.parts));
  bytes : l.out.items ≡ l.initial.out.items ++ cut l.from l.to (flat (take l.part-index l.parts));
}
