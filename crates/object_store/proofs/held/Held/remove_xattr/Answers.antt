use Rattle.object_store.specs.declared.limits.TheConstants.{XATTR_LIMIT}
use Rattle.object_store.proofs.Within.{after_removal}
use Rattle.object_store.proofs.held.Held.remove_xattr.Goals as goal

pub invariant_of-self : goal.invariant_of-self
invariant_of-self c = record {
  length = c.self.invariant.length;
  bytes = c.self.invariant.bytes;
  xattrs = after_removal XATTR_LIMIT c.self.inside.xattrs c.args.name.now c.args.name.now c.remove_in.result c.remove_in.new.attributes c.remove_in.ensures.answer c.remove_in.ensures.err c.self.invariant.xattrs;
  omap = c.self.invariant.omap;
}
