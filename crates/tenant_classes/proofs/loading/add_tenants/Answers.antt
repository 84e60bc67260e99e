use Rattle.std.proofs.Common.{arith, length-append}
use Rattle.std.proofs.lemmas.Grind.{common_steps}
use Rattle.std.proofs.lemmas.Result.{err_from_is_err_and}
use Rattle.tenant_classes.proofs.Tenants.{GrewByTenants-more, fails_at}
use Rattle.tenant_classes.proofs.loading.add_tenants.Goals as goal

pub returns-in_err-loaded-clause-fails : goal.returns-in_err-loaded-clause-fails
returns-in_err-loaded-clause-fails g c =
    let p = err_from_is_err_and c.from_residual.result c.from_residual.ensures.1 in
    rw (p.1, p.2) (fails_at (g.F.ReadableFiles.disk c.args.files.now) c.args.tenants.now c.loop-class.class-index _ c.args.table.now c.loop-class.table c.in_err-loaded.field-0.0.failure c.loop-class-test.true c.loop-class.invariant.grew c.in_err-loaded.ensures.fails)

pub loop-class-preserved : goal.loop-class-preserved
loop-class-preserved g c = record {
  grew = GrewByTenants-more (g.F.ReadableFiles.disk c.args.files.now) c.args.tenants.now c.loop-class.class-index _ c.args.table.now c.loop-class.table c.add.new.table c.in_ok-loaded.loaded c.loop-class-test.true c.loop-class.invariant.grew c.in_ok-loaded.ensures.safe c.in_ok-add.ensures;
  count = grind (arith, length-append, c.in_ok-add.ensures, c.loop-class.invariant.count);
}

pub returns-in_err-add-clause-fails : goal.returns-in_err-add-clause-fails
returns-in_err-add-clause-fails g c = grind (arith, common_steps)
