use Rattle.std.proofs.Common.{◌≡◌, ◌%◌, ◌++◌, length}
use Rattle.object_store.specs.declared.extent.TheConstants.{EXTENT_LIMIT}
use Rattle.object_store.specs.Extents.{flat, AreFull}
use Rattle.object_store.proofs.extents.push_cut.Given as goal

abbrev pub invariant-loop-rest : goal.invariant-loop-rest
invariant-loop-rest l = record {
  bytes : flat l.parts.items ++ l.rest ≡ flat l.initial.parts.items ++ l.bytes;
  full : AreFull l.parts.items;
  left : length l.rest % EXTENT_LIMIT ≡ length l.bytes % EXTENT_LIMIT;
}

abbrev pub decreases-loop-rest : goal.decreases-loop-rest
decreases-loop-rest l = length l.rest
