use Rattle.std.proofs.Common.{subst, sym}
use Rattle.object_store.specs.Limits.{AreNames}
use Rattle.large_objects.proofs.large_object.LargeObject.remove_key.Goals as goal

pub invariant_of-self-2 : goal.invariant_of-self-2
invariant_of-self-2 c =
    let i = c.self.invariant in
    record {
      length = i.length;
      bytes = i.bytes;
      omap = subst AreNames (sym c.in_ok-remove.ensures.ok) (c.changes_keep_the_form.ensures.removed _ _ i.omap);
      xattrs = i.xattrs;
    }
