use Rattle.std.proofs.Common.{map, take, Bor, List, ℕ}
use Rattle.radoscls_program.specs.Raw.{AreRaw}
use Rattle.radoscls_program.proofs.raw_method.raw_methods.Given as goal

-- a method for each text so far
abbrev pub invariant-loop-text : goal.invariant-loop-text
invariant-loop-text l =
    let text : Bor (List ℕ) → List ℕ = λ t. t.now in
    AreRaw (map text (take l.text-index l.texts)) l.methods.items
