use Rattle.std.proofs.Common.{◌≡◌, drop}
use Rattle.placement.specs.Placement.{fnv1a, fnv1a_from}
use Rattle.placement.proofs.group.fnv1a.Given as goal

abbrev pub invariant-loop-byte : goal.invariant-loop-byte
invariant-loop-byte l = fnv1a_from l.hash (drop l.byte-index l.bytes) ≡ fnv1a l.bytes
