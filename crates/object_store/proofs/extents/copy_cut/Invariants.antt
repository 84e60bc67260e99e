use Rattle.std.proofs.Common.{◌≡◌, ◌++◌, length, take, drop}
use Rattle.object_store.specs.Extents.{flat, cut}
use Rattle.object_store.proofs.extents.copy_cut.Given as goal

abbrev pub invariant-loop-part : goal.invariant-loop-part
invariant-loop-part l = record {
  place : l.start ≡ length (flat (take l.part-index l.parts));
  count : l.done ≡ length (cut l.from l.to (flat (take l.part-index l.parts)));
  bytes : l.out ≡ cut l.from l.to (flat (take l.part-index l.parts)) ++ drop l.done l.initial.out;
}
