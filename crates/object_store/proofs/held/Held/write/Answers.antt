use Rattle.std.proofs.Common.{◌≤◌, sym, subst, length}
use Rattle.object_store.specs.declared.limits.TheConstants.{DATA_LIMIT}
use Rattle.object_store.specs.Object.{AreBytes}
use Rattle.object_store.proofs.Bytes.{are_spliced, spliced_short, each_below}
use Rattle.std.proofs.Common.{List, ℕ, arith}
use Rattle.object_store.proofs.held.Held.write.Goals as goal

pub invariant_of-self-2 : goal.invariant_of-self-2
invariant_of-self-2 c = record {
  length = subst (λ (b : List ℕ). length b ≤ DATA_LIMIT) (sym c.in_ok-splice.ensures.ok) (spliced_short c.self.inside.bytes c.args.at c.args.text.now DATA_LIMIT c.self.invariant.length c.requires);
  bytes = subst AreBytes (sym c.in_ok-splice.ensures.ok) (are_spliced c.self.inside.bytes c.args.at c.args.text.now c.self.invariant.bytes (each_below c.args.text.now (λ i. omega (arith, c.type_inv.text i))));
  xattrs = c.self.invariant.xattrs;
  omap = c.self.invariant.omap;
}
