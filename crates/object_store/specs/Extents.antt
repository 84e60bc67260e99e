-- Bytes in extents. An extent is seen as its bytes.
use Rattle.std.specs.Prelude.{◌≡◌, ℕ, ◌-◌, ◌≤◌, List, [], ◌∷◌, ◌++◌, Option, Some, None, take, drop, length}
use Rattle.std.specs.Arc.{arc_value}
use Rattle.std.specs.declared.sync.Arc.{Arc}
use Rattle.std.specs.declared.vec.Vec.{Vec}
use Rattle.object_store.specs.declared.extent.TheConstants.{EXTENT_LIMIT}

-- the bytes of all extents in order
abbrev pub flat : List (List ℕ) → List ℕ
flat [] = []
flat (x ∷ xs) = x ++ flat xs

-- the extents of a shared list, if there is one
abbrev pub shared : {Y Z : Type 0} → Option (Arc (Vec (List ℕ) Y) Z) → List (List ℕ)
shared None = []
shared (Some parts) = (arc_value parts).items

-- every extent has 4,096 bytes
abbrev pub AreFull : List (List ℕ) → Type 0
AreFull [] = Unit {0}
AreFull (x ∷ xs) = (length x ≡ EXTENT_LIMIT) × AreFull xs

-- an extent has 1 to 4,096 bytes, and 4,096 if another follows: as few extents as the bytes need
abbrev pub ArePacked : List (List ℕ) → Type 0
ArePacked [] = Unit {0}
ArePacked (x ∷ xs) =
    (1 ≤ length x) × (length x ≤ EXTENT_LIMIT) × (1 ≤ length xs → length x ≡ EXTENT_LIMIT) × ArePacked xs

-- the bytes of a range, as far as they exist
abbrev pub cut : ℕ → ℕ → List ℕ → List ℕ
cut from to bytes = take (to - from) (drop from bytes)
