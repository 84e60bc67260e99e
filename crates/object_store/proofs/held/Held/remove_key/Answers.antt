use Rattle.object_store.specs.declared.limits.TheConstants.{KEY_LIMIT}
use Rattle.object_store.proofs.Within.{after_removal}
use Rattle.object_store.proofs.held.Held.remove_key.Goals as goal

pub invariant_of-self : goal.invariant_of-self
invariant_of-self c = record {
  length = c.self.invariant.length;
  bytes = c.self.invariant.bytes;
  xattrs = c.self.invariant.xattrs;
  omap = after_removal KEY_LIMIT c.self.inside.omap c.args.key.now c.args.key.now c.remove_in.result c.remove_in.new.attributes c.remove_in.ensures.answer c.remove_in.ensures.err c.self.invariant.omap;
}
