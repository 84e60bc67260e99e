use Rattle.object_store.specs.declared.limits.TheConstants.{KEY_LIMIT}
use Rattle.object_store.proofs.Within.{after_set}
use Rattle.object_store.proofs.held.Held.set_key.Goals as goal

pub invariant_of-self : goal.invariant_of-self
invariant_of-self c = record {
  length = c.self.invariant.length;
  bytes = c.self.invariant.bytes;
  xattrs = c.self.invariant.xattrs;
  omap = after_set KEY_LIMIT c.self.inside.omap c.args.key.now c.args.value.now c.set_in.result c.set_in.new.attributes c.set_in.ensures.answer c.set_in.ensures.err c.self.invariant.omap c.requires.0 c.requires.1;
}
