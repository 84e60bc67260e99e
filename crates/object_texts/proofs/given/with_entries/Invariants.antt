use Rattle.std.proofs.Common.{◌≡◌, drop}
use Rattle.object_texts.specs.Given.{with_entries}
use Rattle.object_texts.proofs.given.with_entries.Given as goal

-- those that are left decide
abbrev pub invariant-loop-entry : goal.invariant-loop-entry
invariant-loop-entry l = with_entries l.part l.object (drop l.entry-index l.entries) ≡ with_entries l.part l.initial.object l.entries
