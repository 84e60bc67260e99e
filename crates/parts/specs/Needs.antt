-- What isn't known of an object, and has to be before a helper can answer.
use Rattle.std.specs.Prelude.{◌≡◌, ℕ, ◌≤◌, Bool, false, IsTrue, List, length}
use Rattle.shared_map.specs.Entries.{key_above}
use Rattle.object_store.specs.declared.limits.Limits.{Limits}
use Rattle.object_store.specs.Calls.{is_named_within}
use Rattle.part_bytes.specs.declared.need.Need.{Need}
use Rattle.part_bytes.specs.declared.need.Need.TheVariants.{Blocks, Xattr, Key, KeyFrom, XattrFrom}
use Rattle.part_data.specs.Known.{AreKnown, AreUnknown}
use Rattle.part_names.specs.Order.{least_from}
use Rattle.part_names.specs.Known.{PlainNames, is_known}
use Rattle.part_names.specs.Answers.{AllHeld, IsGap}
use Rattle.parts.specs.Known.{KnownObject}

-- a name that it isn't known of whether it is there, of an object that is
pub record IsUnknown (there : Bool) (most : ℕ) (names : PlainNames) (name : List ℕ) : Type 0 where
  pub present : IsTrue there
  pub named : IsTrue (is_named_within most name)
  pub unknown : is_known names name ≡ false

-- the first place above some bytes of which it isn't known if a name is there
pub record IsMissing (there : Bool) (most : ℕ) (names : PlainNames) (bytes place : List ℕ) : Type 0 where
  pub present : IsTrue there
  pub short : length bytes ≤ most
  pub gap : IsGap names (least_from bytes) (key_above names.entries bytes) place

-- the blocks that a read meets, from the first unknown one to the last
abbrev pub NeedsBlocks : KnownObject → ℕ → ℕ → Need → Type 0
NeedsBlocks k at n (Blocks first count) = IsTrue k.present × AreUnknown k.bytes at n first count
NeedsBlocks k at n other = ⊥

-- the xattr, or the key, of a name
abbrev pub NeedsXattr : Limits → KnownObject → List ℕ → Need → Type 0
NeedsXattr limits k name (Xattr needed) =
    IsUnknown k.present limits.xattrs.length k.xattrs name × (needed.items ≡ name)
NeedsXattr limits k name other = ⊥

abbrev pub NeedsKey : Limits → KnownObject → List ℕ → Need → Type 0
NeedsKey limits k key (Key needed) = IsUnknown k.present limits.keys.length k.keys key × (needed.items ≡ key)
NeedsKey limits k key other = ⊥

-- the least key, or xattr, from a place on
abbrev pub NeedsKeyFrom : Limits → KnownObject → List ℕ → Need → Type 0
NeedsKeyFrom limits k key (KeyFrom place) = IsMissing k.present limits.keys.length k.keys key place.items
NeedsKeyFrom limits k key other = ⊥

abbrev pub NeedsXattrFrom : Limits → KnownObject → List ℕ → Need → Type 0
NeedsXattrFrom limits k name (XattrFrom place) = IsMissing k.present limits.xattrs.length k.xattrs name place.items
NeedsXattrFrom limits k name other = ⊥

-- ---- where nothing is needed: what a helper touches of an object that is there is known

-- each position that a read gives
abbrev pub AreRead : KnownObject → ℕ → ℕ → Type 0
AreRead k at n = IsTrue k.present → AreKnown k.bytes at n

-- a name
abbrev pub IsLookedUp : Bool → ℕ → PlainNames → List ℕ → Type 0
IsLookedUp there most names name = IsTrue there → IsTrue (is_named_within most name) → IsTrue (is_known names name)

-- each name above some bytes, up to the least one of the entries
abbrev pub IsReached : Bool → ℕ → PlainNames → List ℕ → Type 0
IsReached there most names bytes =
    IsTrue there → length bytes ≤ most →
    AllHeld names.intervals (least_from bytes) (key_above names.entries bytes)
