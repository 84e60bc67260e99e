-- What a call needs, and how it is spelled.
use Rattle.std.specs.Prelude.{ℕ, ◌^◌, ◌<◌, List, [], ◌∷◌, ◌++◌}
use Rattle.byteorder.specs.Endian.{little_bytes}
use Rattle.part_bytes.specs.declared.need.Need.{Need}
use Rattle.part_bytes.specs.declared.need.Need.TheVariants.{Blocks, Xattr, Key, KeyFrom, XattrFrom}
use Rattle.part_bytes.specs.Part.{text_bytes}

-- what is needed: its kind, and then the first block and how many, or a name after its length
abbrev pub need_bytes : Need → List ℕ
need_bytes (Blocks first count) = 1 ∷ (little_bytes 8 first ++ count ∷ [])
need_bytes (Xattr name) = 2 ∷ text_bytes name.items
need_bytes (Key name) = 3 ∷ text_bytes name.items
need_bytes (KeyFrom place) = 4 ∷ text_bytes place.items
need_bytes (XattrFrom place) = 5 ∷ text_bytes place.items

-- a need whose first block's number fits its field
abbrev pub IsNeed : Need → Type 0
IsNeed (Blocks first count) = first < 2 ^ 64
IsNeed (Xattr name) = Unit {0}
IsNeed (Key name) = Unit {0}
IsNeed (KeyFrom place) = Unit {0}
IsNeed (XattrFrom place) = Unit {0}
