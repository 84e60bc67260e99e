use Rattle.std.proofs.Common.{◌≡◌, ◌++◌, take}
use Rattle.std.specs.List.{flat_map, AllByRecursion}
use Rattle.loop_bytes.specs.HeadBytes.{place_bytes, KindFits}
use Rattle.loop_bytes.proofs.writing.push_places.Given as goal

abbrev pub invariant-loop-place : goal.invariant-loop-place
invariant-loop-place l = record {
  bytes : l.bytes.items ≡ l.initial.bytes.items ++ flat_map place_bytes (take l.place-index l.places);
  fits : AllByRecursion (λ p. KindFits p.kind) (take l.place-index l.places);
}
