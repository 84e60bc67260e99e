use Rattle.std.proofs.Common.{◌≡◌, map, drop}
use Rattle.part_bytes.specs.View.{interval_view, entry_view}
use Rattle.part_bytes.specs.inner.Reading.{covers}
use Rattle.part_bytes.proofs.names.covers.Given as goal

-- what is covered of those left is what is covered of all
abbrev pub invariant-loop-entry : goal.invariant-loop-entry
invariant-loop-entry l = covers (map interval_view l.left) (map entry_view (drop l.entry-index l.entries)) ≡ covers (map interval_view l.intervals) (map entry_view l.entries)
