use Rattle.std.proofs.Common.{◌≡◌, min, length, take}
use Rattle.object_store.specs.declared.extent.TheConstants.{EXTENT_LIMIT}
use Rattle.object_store.specs.Extents.{flat}
use Rattle.object_store.proofs.extent_data.ExtentData.longest_extent.Given as goal

abbrev pub invariant-loop-part : goal.invariant-loop-part
invariant-loop-part l = l.most ≡ min (length (flat (take l.part-index l.parts))) EXTENT_LIMIT
