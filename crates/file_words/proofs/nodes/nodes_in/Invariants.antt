use Rattle.std.proofs.Common.{◌≡◌, drop, map, Bor, List, ℕ}
use Rattle.file_words.specs.Words.{numbers_in}
use Rattle.file_words.proofs.Listed.{with_all}
use Rattle.file_words.proofs.nodes.nodes_in.Given as goal

-- the numbers so far and those of what is left
abbrev pub invariant-loop-word : goal.invariant-loop-word
invariant-loop-word l =
    let text : Bor (List ℕ) → List ℕ = λ n. n.now in
    with_all l.nodes.items (numbers_in (map text (drop l.word-index l.words))) ≡ numbers_in (map text l.words)
