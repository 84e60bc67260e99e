use Rattle.std.proofs.Common.{◌≡◌, ◌++◌, drop, map}
use Rattle.radoscls_program.specs.Values.{entry_texts, filled_texts}
use Rattle.radoscls_program.proofs.values.entries_of.Given as goal

-- the entries so far, and then those that are left, are all
abbrev pub invariant-loop-one : goal.invariant-loop-one
invariant-loop-one l = map entry_texts l.entries.items ++ map filled_texts (drop l.one-index l.filled) ≡ map filled_texts l.filled
