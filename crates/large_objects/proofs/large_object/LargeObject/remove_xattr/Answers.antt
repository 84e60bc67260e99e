use Rattle.std.proofs.Common.{subst, sym}
use Rattle.object_store.specs.Limits.{AreNames}
use Rattle.large_objects.proofs.large_object.LargeObject.remove_xattr.Goals as goal

pub invariant_of-self-2 : goal.invariant_of-self-2
invariant_of-self-2 c =
    let i = c.self.invariant in
    record {
      length = i.length;
      bytes = i.bytes;
      xattrs = subst AreNames (sym c.in_ok-remove.ensures.ok) (c.changes_keep_the_form.ensures.removed _ _ i.xattrs);
      omap = i.omap;
    }
