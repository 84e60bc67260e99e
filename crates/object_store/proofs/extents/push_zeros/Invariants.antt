use Rattle.std.proofs.Common.{◌≡◌, ◌*◌, ◌++◌, replicate}
use Rattle.object_store.specs.declared.extent.TheConstants.{EXTENT_LIMIT}
use Rattle.object_store.specs.Extents.{flat, AreFull}
use Rattle.object_store.proofs.extents.push_zeros.Given as goal

abbrev pub invariant-loop : goal.invariant-loop
invariant-loop l = record {
  bytes : flat l.parts.items ≡ flat l.initial.parts.items ++ replicate (l.counter * EXTENT_LIMIT) 0;
  full : AreFull l.parts.items;
}
