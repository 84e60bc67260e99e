use Rattle.std.proofs.Common.{◌≤◌, sym, subst, length}
use Rattle.object_store.specs.declared.limits.TheConstants.{DATA_LIMIT, XATTR_LIMIT, KEY_LIMIT}
use Rattle.object_store.specs.Object.{AreBytes}
use Rattle.object_store.proofs.Within.{none_within}
use Rattle.std.proofs.Common.{List, ℕ, arith}
use Rattle.object_store.specs.Object.{AreWithin}
use Rattle.object_store.proofs.held.Held.new.Goals as goal

pub invariant_of-result : goal.invariant_of-result
invariant_of-result c = record {
  length = subst (λ (b : List ℕ). length b ≤ DATA_LIMIT) (sym c.new.ensures) (omega arith);
  bytes = subst AreBytes (sym c.new.ensures) tt;
  xattrs = subst (AreWithin XATTR_LIMIT) (sym c.new-2.ensures) (none_within XATTR_LIMIT);
  omap = subst (AreWithin KEY_LIMIT) (sym c.new-3.ensures) (none_within KEY_LIMIT);
}
