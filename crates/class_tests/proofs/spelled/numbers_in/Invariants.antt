use Rattle.std.proofs.Common.{◌≡◌, [], drop, map, Bor, List, ℕ}
use Rattle.class_tests.specs.Spelled.{with_numbers}
use Rattle.class_tests.proofs.spelled.numbers_in.Given as goal

-- the numbers that are left decide
abbrev pub invariant-loop-word : goal.invariant-loop-word
invariant-loop-word l =
    let text : Bor (List ℕ) → List ℕ = λ w. w.now in
    with_numbers l.width l.bytes.items (map text (drop l.word-index l.words)) ≡ with_numbers l.width [] (map text l.words)
