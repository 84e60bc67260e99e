use Rattle.std.proofs.Common.{◌≡◌, ◌+◌, ◌≤◌, ℕ, List, IsTrue, length, map, drop}
use Rattle.std.specs.FinMap as fin
use Rattle.std.specs.List.{AllByRecursion}
use Rattle.part_bytes.specs.Part.{Entry}
use Rattle.part_bytes.specs.View.{entry_view}
use Rattle.part_names.specs.Order.{is_held}
use Rattle.parts.specs.inner.Part.{first_of, value_of}
use Rattle.parts.proofs.Entries.{Rises}
use Rattle.parts.proofs.of_part.learn_entries.Given as goal

-- with the entries that are left, those that were learned are all
abbrev pub invariant-loop-entry : goal.invariant-loop-entry
invariant-loop-entry l = record {
  most : l.names.most ≡ l.initial.names.most;
  intervals : l.names.intervals ≡ l.initial.names.intervals;
  rises : Rises l.names.entries (map entry_view (drop l.entry-index l.entries));
  held : AllByRecursion (λ (e : Entry). IsTrue (is_held l.names.intervals e.0)) (map entry_view (drop l.entry-index l.entries));
  room : fin.len l.names.entries + length (map entry_view (drop l.entry-index l.entries)) ≤ l.names.most;
  all : (q : List ℕ) → first_of (value_of (map entry_view (drop l.entry-index l.entries)) q) (fin.get l.names.entries q) ≡ value_of (map entry_view l.entries) q;
}
