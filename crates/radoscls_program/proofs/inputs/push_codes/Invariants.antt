use Rattle.std.proofs.Common.{◌≡◌, ◌++◌, drop, map, Bor, List, ℕ}
use Rattle.radoscls_program.specs.Raw.{code_in}
use Rattle.radoscls_program.proofs.inputs.push_codes.Given as goal

-- the files so far, and then those that are left, are all
abbrev pub invariant-loop-text : goal.invariant-loop-text
invariant-loop-text l =
    let text : Bor (List ℕ) → List ℕ = λ t. t.now in
    map text l.names.items ++ map code_in (map text (drop l.text-index l.texts)) ≡ map text l.fn.names.items ++ map code_in (map text l.texts)
