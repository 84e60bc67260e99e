use Rattle.std.proofs.Common.{◌≤◌, sym, subst, length, arith}
use Rattle.std.proofs.lemmas.Grind.{common_steps}
use Rattle.object_store.specs.declared.limits.TheConstants.{DATA_LIMIT}
use Rattle.object_store.specs.Object.{AreBytes}
use Rattle.object_store.proofs.Bytes.{are_resized}
use Rattle.object_store.proofs.Flats.{length_resized}
use Rattle.std.proofs.Common.{ap, ◌∙◌}
use Rattle.object_store.proofs.held.Held.truncate.Goals as goal

pub invariant_of-self-2 : goal.invariant_of-self-2
invariant_of-self-2 c = record {
  length = subst (λ n. n ≤ DATA_LIMIT) (sym (ap length c.in_ok-resize.ensures.ok ∙ length_resized c.self.inside.bytes c.args.len)) c.requires;
  bytes = subst AreBytes (sym c.in_ok-resize.ensures.ok) (are_resized c.self.inside.bytes c.args.len c.self.invariant.bytes);
  xattrs = c.self.invariant.xattrs;
  omap = c.self.invariant.omap;
}

pub returns : goal.returns
returns c = grind (arith, common_steps)
