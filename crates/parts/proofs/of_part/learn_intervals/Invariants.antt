use Rattle.std.proofs.Common.{◌≡◌, ◌++◌, map, drop}
use Rattle.part_bytes.specs.View.{interval_view}
use Rattle.parts.specs.inner.Part.{interval_of}
use Rattle.parts.proofs.Intervals.{GoesOn}
use Rattle.parts.proofs.of_part.learn_intervals.Given as goal

-- with the intervals that are left, those that were learned are all
abbrev pub invariant-loop-interval : goal.invariant-loop-interval
invariant-loop-interval l = record {
  most : l.names.most ≡ l.initial.names.most;
  entries : l.names.entries ≡ l.initial.names.entries;
  all : l.names.intervals ++ map interval_of (map interval_view (drop l.interval-index l.intervals)) ≡ map interval_of (map interval_view l.intervals);
  goes_on : GoesOn l.names.intervals (map interval_view (drop l.interval-index l.intervals));
}
