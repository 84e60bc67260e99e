-- Which objects agree with a part that a host gives, and what a call then knows of them.
use Rattle.std.specs.Prelude.{◌≡◌, ◌⊎◌, ◌↔◌, ℕ, ◌*◌, ◌≤◌, IsTrue, IsSome, List, [], ◌∷◌, Some, None, length}
use Rattle.std.specs.List.{AllByRecursion}
use Rattle.std.specs.FinMap as fin
use Rattle.object_store.specs.Object.{Attributes, PlainObject, part}
use Rattle.object_store.specs.Object as object
use Rattle.part_bytes.specs.declared.limits.TheConstants.{BLOCK}
use Rattle.part_bytes.specs.Part.{Block, Entry, Names, Content, PlainPart, IsHeld, Everything}
use Rattle.part_data.specs.Known.{block_of, blocks_of, known}
use Rattle.part_names.specs.Known.{is_known}
use Rattle.part_names.specs.Order.{is_held}
use Rattle.parts.specs.Known.{KnownObject}

-- ---- which objects agree
-- data has the bytes of these blocks
abbrev pub HasBlocks : List Block → List ℕ → Type 0
HasBlocks blocks bytes = AllByRecursion (λ (b : Block). part bytes (BLOCK * b.0) BLOCK ≡ b.1) blocks

-- no entry has the name
abbrev pub HasNoEntry : List Entry → List ℕ → Type 0
HasNoEntry entries name = AllByRecursion (λ (e : Entry). ¬ (e.0 ≡ name)) entries

-- each entry is a name's value, and every other name that an interval holds is absent
pub record AgreeNames (n : Names) (m : Attributes) : Type 0 where
  pub entries : AllByRecursion (λ (e : Entry). fin.get m e.0 ≡ Some e.1) n.entries
  pub others : (name : List ℕ) → IsHeld n.intervals name → HasNoEntry n.entries name → fin.get m name ≡ None

-- an object that is there has the size, the bytes of the blocks, and the names and values; it may have anything else
pub record AgreesContent (p : Content) (c : object.Content) : Type 0 where
  pub size : length c.bytes ≡ p.size
  pub blocks : HasBlocks p.blocks c.bytes
  pub xattrs : AgreeNames p.xattrs c.xattrs
  pub keys : AgreeNames p.keys c.omap

-- an object agrees with a part: only one that is absent agrees with the part that says so
abbrev pub AgreesPart : PlainPart → PlainObject → Type 0
AgreesPart None None = Unit {0}
AgreesPart None (Some c) = ⊥
AgreesPart (Some p) None = ⊥
AgreesPart (Some p) (Some c) = AgreesContent p c

-- ---- what is known
-- one of the blocks has the position
abbrev pub IsInBlock : List Block → ℕ → Type 0
IsInBlock [] at = ⊥
IsInBlock (b ∷ bs) at = (block_of at ≡ b.0) ⊎ IsInBlock bs at

-- all of the data is known, and all names, which an interval holds
pub record KnowsAll (k : KnownObject) : Type 0 where
  pub bytes : (at : ℕ) → IsSome (known k.bytes at)
  pub xattrs : (name : List ℕ) → IsTrue (is_known k.xattrs name)
  pub keys : (name : List ℕ) → IsTrue (is_known k.keys name)
  pub xattrs_held : (name : List ℕ) → IsTrue (is_held k.xattrs.intervals name)
  pub keys_held : (name : List ℕ) → IsTrue (is_held k.keys.intervals name)

-- the part's blocks are known and what is past the last block of the data, and the names that its intervals hold
pub record KnowsContent (p : Content) (k : KnownObject) : Type 0 where
  pub bytes : (at : ℕ) → IsSome (known k.bytes at) ↔ (IsInBlock p.blocks at ⊎ (blocks_of p.size ≤ block_of at))
  pub xattrs : (name : List ℕ) → IsTrue (is_known k.xattrs name) ↔ IsHeld p.xattrs.intervals name
  pub keys : (name : List ℕ) → IsTrue (is_known k.keys name) ↔ IsHeld p.keys.intervals name
  pub xattrs_held : (name : List ℕ) → IsTrue (is_held k.xattrs.intervals name) ↔ IsHeld p.xattrs.intervals name
  pub keys_held : (name : List ℕ) → IsTrue (is_held k.keys.intervals name) ↔ IsHeld p.keys.intervals name

-- what is known is what the part says, and all of an object that is absent
abbrev pub KnowsPart : PlainPart → KnownObject → Type 0
KnowsPart None k = KnowsAll k
KnowsPart (Some p) k = KnowsContent p k

-- the part says all of some names: the object is absent, or one interval holds them all
abbrev pub HasAllNames : (Content → Names) → PlainPart → Type 0
HasAllNames names None = Unit {0}
HasAllNames names (Some p) = (names p).intervals ≡ Everything
