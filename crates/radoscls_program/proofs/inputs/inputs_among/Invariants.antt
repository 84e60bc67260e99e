use Rattle.std.proofs.Common.{◌≡◌, ◌≤◌, ◌+◌, count_by, drop, map, Bor, List, ℕ}
use Rattle.radoscls_program.specs.Inputs.{is_input}
use Rattle.radoscls_program.proofs.inputs.inputs_among.Given as goal

-- the inputs so far, and then those that are left, are all
abbrev pub invariant-loop-name : goal.invariant-loop-name
invariant-loop-name l =
    let text : Bor (List ℕ) → List ℕ = λ n. n.now in
    record {
      within : l.count ≤ l.name-index;
      rest : l.count + count_by is_input (map text (drop l.name-index l.names)) ≡ count_by is_input (map text l.names);
    }
