use Rattle.std.proofs.Common.{◌≡◌, map, drop}
use Rattle.part_bytes.specs.View.{interval_view}
use Rattle.part_bytes.specs.inner.Reading.{past}
use Rattle.part_bytes.proofs.names.past.Given as goal

-- what is dropped of those left is what is dropped of all
abbrev pub invariant-loop-n : goal.invariant-loop-n
invariant-loop-n l = past l.name (map interval_view (drop l.n l.intervals)) ≡ past l.name (map interval_view l.intervals)
