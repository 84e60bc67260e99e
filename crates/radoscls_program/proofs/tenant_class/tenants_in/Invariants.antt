use Rattle.std.proofs.Common.{◌≡◌, ◌≤◌, [], drop, length, map, take, Bor, List, ℕ}
use Rattle.tenant_classes.specs.Classes.{names_of}
use Rattle.radoscls_program.specs.Tenants.{are_behind, parts_of, parts_in}
use Rattle.radoscls_program.proofs.tenant_class.tenants_in.Given as goal

-- a class for each text so far; the texts that are left decide
abbrev pub invariant-loop-text : goal.invariant-loop-text
invariant-loop-text l =
    let text : Bor (List ℕ) → List ℕ = λ t. t.now in
    record {
      same : map parts_of l.tenants.items ≡ map parts_in (map text (take l.text-index l.texts));
      counted : length l.tenants.items ≤ l.text-index;
      rest : are_behind (names_of l.tenants.items) (map text (drop l.text-index l.texts)) ≡ are_behind (names_of []) (map text l.texts);
    }
