-- What a tree is seen as, and what holds of each branch.
use Rattle.std.specs.Prelude.{◌≡◌, ℕ, ◌+◌, max, min, length, [], ◌∷◌, ◌++◌, Option, Some, None, IsTrue}
use Rattle.std.specs.declared.sync.Arc.{Arc}
use Rattle.std.specs.Arc.{arc_value}
use Rattle.std.specs.Borrow.{Bor}
use Rattle.shared_map.specs.Entries.{Entries, Pair, sorted}
use Rattle.shared_map.specs.Shape.{Shape}
use Rattle.shared_map.specs.declared.tree.Entry.{Entry}
use Rattle.shared_map.specs.declared.tree.Link.{Link}
use Rattle.shared_map.specs.declared.tree.Link.TheVariants.{Leaf, Fork}

-- an entry of the code as a key's bytes with its value
abbrev pub pair : {V : Type 0} → Entry V → Pair V
pair e = (e.key.items, e.value)

-- the entries in order
abbrev pub listed : {V : Type 0} → Link V → Entries V
listed Leaf = []
listed (Fork b) = (arc_value b).left.entries ++ pair (arc_value (arc_value b).entry) ∷ (arc_value b).right.entries

-- how many branches stand on the longest way down
abbrev pub tall : {V : Type 0} → Link V → ℕ
tall Leaf = 0
tall (Fork b) = max (arc_value b).left.height (arc_value b).right.height + 1

-- what a tree is seen as: its entries in order, and its height
abbrev pub shape : {V : Type 0} → Link V → Shape V
shape n = record { entries = listed n; height = tall n }

-- a height as a byte stores it
abbrev pub byte_of : ℕ → ℕ
byte_of h = min h 255

-- a branch stores its height
abbrev pub StoresHeight : {V : Type 0} → Link V → Type 0
StoresHeight Leaf = Unit {0}
StoresHeight (Fork b) = (arc_value b).height ≡ byte_of (tall (Fork b))

-- a branch stores how many entries it has
abbrev pub StoresSize : {V : Type 0} → Link V → Type 0
StoresSize Leaf = Unit {0}
StoresSize (Fork b) = (arc_value b).size ≡ length (listed (Fork b))

-- the keys rise, and the stored height and size are the tree's
pub record IsTree {V : Type 0} (n : Link V) : Type 0 where
  pub rises : IsTrue (sorted (listed n))
  pub height : StoresHeight n
  pub size : StoresSize n

-- the entry that a reference leads to
abbrev pub pair_behind : {V : Type 0} → Option (Bor (Entry V)) → Option (Pair V)
pair_behind None = None
pair_behind (Some e) = Some (pair e.now)

-- the first entry and the rest
abbrev pub IsSplit : {V Z : Type 0} → Entries V → Option (Arc (Entry V) Z × Shape V) → Type 0
IsSplit es None = es ≡ []
IsSplit es (Some p) = es ≡ pair (arc_value p.0) ∷ p.1.entries
