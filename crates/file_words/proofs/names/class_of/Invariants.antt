use Rattle.std.proofs.Common.{◌≡◌, drop, map, Bor, List, ℕ}
use Rattle.file_words.specs.Words.{class_of}
use Rattle.file_words.proofs.names.class_of.Given as goal

-- the names that are left give the id that all give
abbrev pub invariant-loop-name : goal.invariant-loop-name
invariant-loop-name l =
    let text : Bor (List ℕ) → List ℕ = λ n. n.now in
    record { id : l.id ≡ l.name-index; same : class_of l.id (map text (drop l.name-index l.names)) l.word ≡ class_of 0 (map text l.names) l.word }
