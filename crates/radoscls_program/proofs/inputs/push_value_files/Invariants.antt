use Rattle.std.proofs.Common.{◌≡◌, ◌++◌, drop, map, Bor, List, ℕ}
use Rattle.std.specs.List.{flat_map}
use Rattle.radoscls_program.specs.Inputs.{value_file}
use Rattle.radoscls_program.proofs.inputs.push_value_files.Given as goal

-- the files so far, and then those that are left, are all
abbrev pub invariant-loop-value : goal.invariant-loop-value
invariant-loop-value l =
    let text : Bor (List ℕ) → List ℕ = λ t. t.now in
    map text l.names.items ++ flat_map value_file (map text (drop l.value-index l.values)) ≡ map text l.fn.names.items ++ flat_map value_file (map text l.values)
