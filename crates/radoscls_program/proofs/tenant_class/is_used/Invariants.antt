use Rattle.std.proofs.Common.{◌≡◌, drop, map, List, ℕ}
use Rattle.std.specs.List.{list_any}
use Rattle.std.specs.Str.{bytes_eq}
use Rattle.tenant_classes.specs.declared.tenant_class.TenantClass.{TenantClass}
use Rattle.radoscls_program.proofs.tenant_class.is_used.Given as goal

-- those that are left decide
abbrev pub invariant-loop-class : goal.invariant-loop-class
invariant-loop-class l =
    let name : TenantClass → List ℕ = λ o. o.name.now in
    list_any (λ u. bytes_eq l.name u) (map name (drop l.class-index l.tenants)) ≡ list_any (λ u. bytes_eq l.name u) (map name l.tenants)
