use Rattle.std.proofs.Common.{subst, sym}
use Rattle.object_store.specs.Limits.{AreNames}
use Rattle.large_objects.proofs.large_object.LargeObject.set_xattr.Goals as goal

pub invariant_of-self-2 : goal.invariant_of-self-2
invariant_of-self-2 c =
    let i = c.self.invariant in
    record {
      length = i.length;
      bytes = i.bytes;
      xattrs = subst AreNames (sym c.in_ok-set_in.ensures.ok) (c.changes_keep_the_form.ensures.inserted _ _ _ i.xattrs c.requires.0 c.requires.1);
      omap = i.omap;
    }
