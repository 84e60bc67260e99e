use Rattle.std.proofs.Common.{◌≡◌, ◌++◌, take}
use Rattle.std.specs.List.{flat_map, AllByRecursion}
use Rattle.loop_bytes.specs.HeadBytes.{head_bytes, HeadFits}
use Rattle.loop_bytes.proofs.writing.push_heads.Given as goal

abbrev pub invariant-loop-head : goal.invariant-loop-head
invariant-loop-head l = record {
  bytes : l.bytes.items ≡ l.initial.bytes.items ++ flat_map head_bytes (take l.head-index l.heads);
  fits : AllByRecursion HeadFits (take l.head-index l.heads);
}
