-- The flat form of an object: its one spelling. Numbers are little-endian.
use Rattle.std.specs.Prelude.{◌≡◌, ℕ, List, [], ◌∷◌, ◌++◌, Some, None, length}
use Rattle.std.specs.List.{flat_map}
use Rattle.std.specs.FinMap as fin
use Rattle.byteorder.specs.Endian.{little_bytes}
use Rattle.object_store.specs.Object.{Attributes, Content, PlainObject, IsObject}

-- a name after its length
abbrev pub name_bytes : List ℕ → List ℕ
name_bytes name = length name ∷ name

-- a value after its length
abbrev pub value_bytes : List ℕ → List ℕ
value_bytes value = little_bytes 2 (length value) ++ value

-- a name and its value
abbrev pub entry_bytes : List ℕ × List ℕ → List ℕ
entry_bytes e = name_bytes e.0 ++ value_bytes e.1

-- how many names, and then each entry, by rising names
abbrev pub entries_bytes : Attributes → List ℕ
entries_bytes m = little_bytes 2 (fin.len m) ++ flat_map entry_bytes (fin.entries m)

-- data after its length, xattrs and keys
abbrev pub content_bytes : Content → List ℕ
content_bytes c = little_bytes 4 (length c.bytes) ++ c.bytes ++ entries_bytes c.xattrs ++ entries_bytes c.omap

-- 0 for an object that is absent, and else 1 and what it holds
abbrev pub flat : PlainObject → List ℕ
flat None = 0 ∷ []
flat (Some c) = 1 ∷ content_bytes c

-- the bytes are the flat form of an object within the limits
pub record Spells (bytes : List ℕ) (object : PlainObject) : Type 0 where
  pub within : IsObject object
  pub flat : flat object ≡ bytes
