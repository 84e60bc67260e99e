use Rattle.std.proofs.Common.{◌≡◌, [], drop, map, Bor, List, ℕ}
use Rattle.class_tests.specs.Spelled.{with_parts}
use Rattle.class_tests.proofs.spelled.parts_in.Given as goal

-- the parts that are left decide
abbrev pub invariant-loop-part : goal.invariant-loop-part
invariant-loop-part l =
    let text : Bor (List ℕ) → List ℕ = λ p. p.now in
    with_parts l.bytes.items (map text (drop l.part-index l.parts)) ≡ with_parts [] (map text l.parts)
