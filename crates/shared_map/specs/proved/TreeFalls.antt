-- Proved; nothing here need be believed.
-- Each side of a branch has fewer entries than the branch.
use Rattle.std.specs.Prelude.{◌≤◌, max, ◌∷◌, length}
use Rattle.std.proofs.Common.{arith, length-append}
use Rattle.std.specs.Arc.{arc_value}
use Rattle.shared_map.specs.declared.tree.Link.{Link}
use Rattle.shared_map.specs.declared.tree.Link.TheVariants.{Leaf, Fork}
use Rattle.shared_map.specs.declared.tree.Tree.TheDeep.{deep-Link}
use Rattle.shared_map.specs.Tree.{listed, pair}

-- no side is deeper than the branch has entries
pub depth_le-length-listed : {V : Type 0} (n : Link V) → max (deep-Link V n) 0 ≤ length (listed n)
depth_le-length-listed Leaf = omega arith
depth_le-length-listed (Fork b) = omega (
  arith,
  length-append (arc_value b).left.entries (pair (arc_value (arc_value b).entry) ∷ (arc_value b).right.entries),
)
