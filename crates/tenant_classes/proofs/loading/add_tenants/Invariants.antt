use Rattle.std.proofs.Common.{◌≡◌, ◌+◌, length, take}
use Rattle.tenant_classes.specs.Classes.{GrewByTenants}
use Rattle.tenant_classes.proofs.loading.add_tenants.Given as goal

-- the classes of the files so far were added to the table
abbrev pub invariant-loop-class : goal.invariant-loop-class
invariant-loop-class g l = record {
  grew : GrewByTenants (g.F.ReadableFiles.disk l.files) (take l.class-index l.tenants) l.initial.table l.table;
  count : length l.table ≡ length l.initial.table + l.class-index;
}
