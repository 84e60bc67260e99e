use Rattle.std.proofs.Common.{ap, arith, length, subst, sym}
use Rattle.object_store.specs.Object.{AreBytes}
use Rattle.object_store.specs.Limits.{AreNames}
use Rattle.large_objects.proofs.large_object.LargeObject.new.Goals as goal

pub invariant_of-result : goal.invariant_of-result
invariant_of-result c =
    let none = c.changes_keep_the_form.ensures.none in
    record {
      length = omega (arith, ap length c.new.ensures.items);
      bytes = subst AreBytes (sym c.new.ensures.items) tt;
      xattrs = subst AreNames (sym c.new-2.ensures) none;
      omap = subst AreNames (sym c.new-3.ensures) none;
    }
