use Rattle.std.proofs.Common.{◌≡◌, ◌++◌, map, drop, ℕ, List, Bor}
use Rattle.std.specs.List.{flat_map}
use Rattle.file_words.specs.Words.{words_in}
use Rattle.file_words.proofs.text.words.Given as goal

-- the words so far and those of what is left
abbrev pub invariant-loop-piece : goal.invariant-loop-piece
invariant-loop-piece l =
    let text : Bor (List ℕ) → List ℕ = λ w. w.now in
    map text l.words.items ++ flat_map words_in (map text (drop l.piece-index l.piece-items)) ≡ flat_map words_in (map text l.piece-items)
