use Rattle.std.proofs.Common.{◌≡◌, take}
use Rattle.std.specs.FinMap as fin
use Rattle.std.specs.List.{flat_map}
use Rattle.object_bytes.specs.Part.{names}
use Rattle.object_bytes.specs.Flat.{entry_bytes}
use Rattle.object_bytes.proofs.spelling.entry_bytes_of.Given as goal

abbrev pub invariant-loop-n : goal.invariant-loop-n
invariant-loop-n l = l.out.items ≡ flat_map entry_bytes (take l.n (fin.entries (names l.part l.object)))
