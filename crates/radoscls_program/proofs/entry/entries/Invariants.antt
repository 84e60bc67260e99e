use Rattle.std.proofs.Common.{map, take, Bor, List, ℕ}
use Rattle.radoscls_program.specs.Entries.{AreEntries}
use Rattle.radoscls_program.proofs.entry.entries.Given as goal

-- an entry for each text so far
abbrev pub invariant-loop-text : goal.invariant-loop-text
invariant-loop-text l =
    let text : Bor (List ℕ) → List ℕ = λ t. t.now in
    AreEntries (map text (take l.text-index l.texts)) l.entries.items
