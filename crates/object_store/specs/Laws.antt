-- What the definitions of the calls keep.
use Rattle.std.specs.Prelude.{◌≡◌, ℕ, List, Result, Ok}
use Rattle.object_store.specs.declared.store_error.StoreError.{StoreError}
use Rattle.object_store.specs.Object.{Content, PlainObject, IsContent, IsObject}

-- from an object within the limits, what a change leaves is within them
abbrev pub Keeps : (PlainObject → Result Content StoreError) → Type 0
Keeps change =
    (object : PlainObject) (content : Content) → IsObject object → change object ≡ Ok content → IsContent content

-- of an object within the limits, what a read gives is such
abbrev pub Reads : (PlainObject → Result (List ℕ) StoreError) → (List ℕ → Type 0) → Type 0
Reads read IsSuch = (object : PlainObject) (bytes : List ℕ) → IsObject object → read object ≡ Ok bytes → IsSuch bytes
