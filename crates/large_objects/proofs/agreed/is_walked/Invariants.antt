use Rattle.std.proofs.Common.{◌≡◌, ◌≤◌, drop, length, map}
use Rattle.std.specs.FinMap as fin
use Rattle.part_bytes.specs.View.{interval_view, entry_view}
use Rattle.large_objects.specs.inner.Walk.{walked}
use Rattle.large_objects.proofs.agreed.is_walked.Given as goal

-- what is left of the walk is the whole of it
abbrev pub invariant-loop-n : goal.invariant-loop-n
invariant-loop-n l = record {
  within : l.count ≤ length l.entries;
  rest : walked (map interval_view l.intervals) (map entry_view (drop l.count l.entries)) (drop l.n (fin.entries l.names))
      ≡ walked (map interval_view l.initial.intervals) (map entry_view l.entries) (fin.entries l.names);
}
