use Rattle.std.proofs.Common.{◌≡◌, drop}
use Rattle.object_texts.specs.LargeGiven.{large_entries}
use Rattle.object_texts.proofs.large_given.with_entries.Given as goal

-- those that are left decide
abbrev pub invariant-loop-entry : goal.invariant-loop-entry
invariant-loop-entry l = large_entries l.part l.object (drop l.entry-index l.entries) ≡ large_entries l.part l.initial.object l.entries
