-- Edits of an object: what each does, which is a call of object_store, and how it is written. And
-- which edits a call on a staged object leaves in its list.
use Rattle.std.specs.Prelude.{ℕ, true, ◌==◌, List, [], ◌∷◌, ◌++◌, Option, Some, None, Result, Ok, Err}
use Rattle.std.specs.Prelude.{if◌then◌else◌, length}
use Rattle.std.specs.List.{flat_map}
use Rattle.byteorder.specs.Endian.{little_bytes}
use Rattle.object_store.specs.Object.{Content, PlainObject}
use Rattle.object_store.specs.Calls as calls
use Rattle.object_store.specs.declared.store_error.StoreError.{StoreError}

pub data Edit : Type 0 where
  Create : Edit
  Remove : Edit
  SetXattr : (name : List ℕ) → (value : List ℕ) → Edit
  RemoveXattr : (name : List ℕ) → Edit
  SetKey : (key : List ℕ) → (value : List ℕ) → Edit
  RemoveKey : (key : List ℕ) → Edit
  SetLength : (len : ℕ) → Edit
  Write : (at : ℕ) → (text : List ℕ) → Edit

-- ---- what it does

abbrev pub there : Result Content StoreError → Result PlainObject StoreError
there (Ok c) = Ok (Some c)
there (Err e) = Err e

abbrev pub absent : Result (Unit {0}) StoreError → Result PlainObject StoreError
absent (Ok _) = Ok None
absent (Err e) = Err e

-- the object after an edit, or its refusal; a creation wants no object there
abbrev pub edited : Edit → PlainObject → Result PlainObject StoreError
edited Create o = there (calls.create o true)
edited Remove o = absent (calls.remove o)
edited (SetXattr name value) o = there (calls.set_xattr o name value)
edited (RemoveXattr name) o = there (calls.remove_xattr o name)
edited (SetKey key value) o = there (calls.set_key o key value)
edited (RemoveKey key) o = there (calls.remove_key o key)
edited (SetLength len) o = there (calls.truncate o len)
edited (Write at text) o = there (calls.write o at text)

-- the rest of a list, once the first edit gave this
abbrev pub and_then : Result PlainObject StoreError → (PlainObject → Result PlainObject StoreError) →
    Result PlainObject StoreError
and_then (Ok o) rest = rest o
and_then (Err e) rest = Err e

-- the object after all edits in order, or the first refusal
abbrev pub all_edited : List Edit → PlainObject → Result PlainObject StoreError
all_edited [] o = Ok o
all_edited (e ∷ es) o = and_then (edited e o) (λ after. all_edited es after)

-- ---- how it is written: its number and its fields, little-endian

-- a name or a value, after its length
abbrev pub text_bytes : List ℕ → List ℕ
text_bytes text = little_bytes 2 (length text) ++ text

-- bytes after their count, and after their place too
abbrev pub counted_bytes : List ℕ → List ℕ
counted_bytes text = little_bytes 4 (length text) ++ text

abbrev pub placed_bytes : ℕ → List ℕ → List ℕ
placed_bytes at text = little_bytes 8 at ++ counted_bytes text

abbrev pub edit_bytes : Edit → List ℕ
edit_bytes Create = 1 ∷ []
edit_bytes Remove = 2 ∷ []
edit_bytes (SetXattr name value) = 3 ∷ text_bytes name ++ text_bytes value
edit_bytes (RemoveXattr name) = 4 ∷ text_bytes name
edit_bytes (SetKey key value) = 5 ∷ text_bytes key ++ text_bytes value
edit_bytes (RemoveKey key) = 6 ∷ text_bytes key
edit_bytes (SetLength len) = 7 ∷ little_bytes 8 len
edit_bytes (Write at text) = 8 ∷ placed_bytes at text

-- one after the other
abbrev pub spelled : List Edit → List ℕ
spelled es = flat_map edit_bytes es

-- ---- what a call on an object leaves in a list, where it isn't refused

-- the creation of an absent object
abbrev pub created : PlainObject → List Edit
created None = Create ∷ []
created (Some o) = []

-- the edits of a call that creates an absent object first
abbrev pub creating : PlainObject → Edit → List Edit
creating o e = created o ++ e ∷ []

-- a write of no bytes is the creation alone
abbrev pub write_edits : PlainObject → ℕ → List ℕ → List Edit
write_edits o at text = if length text == 0 then created o else creating o (Write at text)

-- the removal of an object that is there
abbrev pub removed : PlainObject → List Edit
removed None = []
removed (Some o) = Remove ∷ []

-- a list with the bytes of more edits; none where none is kept
abbrev pub noted : List Edit → Option (List ℕ) → Option (List ℕ)
noted es None = None
noted es (Some bytes) = Some (bytes ++ spelled es)
