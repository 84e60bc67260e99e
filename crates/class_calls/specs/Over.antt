-- What a list of edits does to another object than that of its run: a host may make it beside other
-- writers.
use Rattle.std.specs.Prelude.{◌≡◌, ◌⊎◌, ℕ, ◌+◌, ◌<◌, ◌≤◌, List, [], ◌∷◌, Ok, length, is_some, get_or}
use Rattle.std.specs.FinMap as fin
use Rattle.object_store.specs.Object.{PlainObject, content_of}
use Rattle.txn.specs.Edits.{Edit, Remove, SetXattr, RemoveXattr, SetKey, RemoveKey, SetLength, Write, all_edited}
use Rattle.txn.specs.Made.{made, all_made}

-- ---- positions: a byte by its place, an xattr and a key by their names
pub data Position : Type 0 where
  Byte : (i : ℕ) → Position
  Xattr : (name : List ℕ) → Position
  Key : (key : List ℕ) → Position

-- two objects have the same there; past the end of its data an object has zeros
abbrev pub AreSameAt : Position → PlainObject → PlainObject → Type 0
AreSameAt (Byte i) o p = get_or (content_of o).bytes i 0 ≡ get_or (content_of p).bytes i 0
AreSameAt (Xattr name) o p = fin.get (content_of o).xattrs name ≡ fin.get (content_of p).xattrs name
AreSameAt (Key key) o p = fin.get (content_of o).omap key ≡ fin.get (content_of p).omap key

-- both are absent or both there, and of one size
pub record AreOfOneSize (o p : PlainObject) : Type 0 where
  pub there : is_some o ≡ is_some p
  pub size : length (content_of o).bytes ≡ length (content_of p).bytes

-- The bytes that an edit writes of data of a size: a new length those between both, a write its
-- range and the gap before it, a removal all.
abbrev pub WritesByte : ℕ → Edit → ℕ → Type 0
WritesByte size Remove i = Unit {0}
WritesByte size (SetLength len) i = ((size ≤ i) × (i < len)) ⊎ ((len ≤ i) × (i < size))
WritesByte size (Write at text) i = (0 < length text) × ((at ≤ i) ⊎ (size ≤ i)) × (i < at + length text)
WritesByte size e i = ⊥

-- the names that it writes: its own, a removal of the object all
abbrev pub WritesXattr : Edit → List ℕ → Type 0
WritesXattr Remove name = Unit {0}
WritesXattr (SetXattr own value) name = name ≡ own
WritesXattr (RemoveXattr own) name = name ≡ own
WritesXattr e name = ⊥

abbrev pub WritesKey : Edit → List ℕ → Type 0
WritesKey Remove key = Unit {0}
WritesKey (SetKey own value) key = key ≡ own
WritesKey (RemoveKey own) key = key ≡ own
WritesKey e key = ⊥

abbrev pub Writes : Edit → PlainObject → Position → Type 0
Writes e o (Byte i) = WritesByte (length (content_of o).bytes) e i
Writes e o (Xattr name) = WritesXattr e name
Writes e o (Key key) = WritesKey e key

-- one of a list's edits writes it, each of the object as those before it left it
abbrev pub Wrote : List Edit → PlainObject → Position → Type 0
Wrote [] o p = ⊥
Wrote (e ∷ es) o p = Writes e o p ⊎ Wrote es (made e o) p

-- Over another object of the same presence and size a list leaves the same presence and size, at
-- each position that it wrote what it leaves of its own object, and elsewhere what was there.
pub record Stands (es : List Edit) (own other : PlainObject) : Type 0 where
  pub alike : AreOfOneSize (all_made es own) (all_made es other)
  pub written : (p : Position) → Wrote es own p → AreSameAt p (all_made es other) (all_made es own)
  pub kept : (p : Position) → (Wrote es own p → ⊥) → AreSameAt p (all_made es other) other

-- Where edits of a list are made one after the other and none is refused, this is the object.
abbrev pub MadeIsEdited : Type 0
MadeIsEdited = (es : List Edit) (o p : PlainObject) → all_edited es o ≡ Ok p → all_made es o ≡ p

abbrev pub ListsStand : Type 0
ListsStand = (es : List Edit) (own other : PlainObject) → AreOfOneSize own other → Stands es own other
