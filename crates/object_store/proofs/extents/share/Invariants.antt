use Rattle.std.proofs.Common.{◌≡◌, ◌++◌, take}
use Rattle.object_store.proofs.extents.share.Given as goal

abbrev pub invariant-loop-part : goal.invariant-loop-part
invariant-loop-part l = l.parts.items ≡ l.initial.parts.items ++ take l.part-index l.others
