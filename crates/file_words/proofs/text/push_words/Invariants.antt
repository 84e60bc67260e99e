use Rattle.std.proofs.Common.{◌≡◌, ◌++◌, ◌==◌, not, length, map, drop, ℕ, List, Bor, Bool}
use Rattle.std.specs.List.{filter}
use Rattle.file_words.proofs.text.push_words.Given as goal

-- the words so far and those of what is left
abbrev pub invariant-loop-piece : goal.invariant-loop-piece
invariant-loop-piece l =
    let text : Bor (List ℕ) → List ℕ = λ w. w.now in
    let some : List ℕ → Bool = λ w. not (length w == 0) in
    map text l.words.items ++ filter some (map text (drop l.piece-index l.pieces)) ≡ map text l.initial.words.items ++ filter some (map text l.pieces)
