use Rattle.std.proofs.Common.{◌≡◌, map, take}
use Rattle.tenant_classes.specs.Classes.{names_of}
use Rattle.tenant_classes.proofs.loading.class_names.Given as goal

-- the names so far
abbrev pub invariant-loop-class : goal.invariant-loop-class
invariant-loop-class l = map (λ n. n.now) l.names.items ≡ names_of (take l.class-index l.tenants)
