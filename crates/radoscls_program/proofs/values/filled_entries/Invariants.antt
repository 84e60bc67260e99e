use Rattle.std.proofs.Common.{map, take}
use Rattle.radoscls_program.specs.Values.{AreValues, entry_texts, filled_texts}
use Rattle.radoscls_program.proofs.values.filled_entries.Given as goal

-- the values of each entry so far
abbrev pub invariant-loop-entry : goal.invariant-loop-entry
invariant-loop-entry g l = AreValues (g.F.ReadableFiles.disk l.files) (map entry_texts (take l.entry-index l.entries)) (map filled_texts l.filled.items)
