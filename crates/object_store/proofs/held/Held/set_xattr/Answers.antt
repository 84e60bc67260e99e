use Rattle.object_store.specs.declared.limits.TheConstants.{XATTR_LIMIT}
use Rattle.object_store.proofs.Within.{after_set}
use Rattle.object_store.proofs.held.Held.set_xattr.Goals as goal

pub invariant_of-self : goal.invariant_of-self
invariant_of-self c = record {
  length = c.self.invariant.length;
  bytes = c.self.invariant.bytes;
  xattrs = after_set XATTR_LIMIT c.self.inside.xattrs c.args.name.now c.args.value.now c.set_in.result c.set_in.new.attributes c.set_in.ensures.answer c.set_in.ensures.err c.self.invariant.xattrs c.requires.0 c.requires.1;
  omap = c.self.invariant.omap;
}
