-- What the code's own staged object and its own change are seen as.
use Rattle.std.specs.Prelude.{ℕ, ◌<◌, ◌^◌, List, [], ◌∷◌, Bool, true, false, Option, Some, None, length}
use Rattle.std.specs.Borrow.{Bor}
use Rattle.std.specs.Option.{option_copied}
use Rattle.object_store.specs.Object.{Content, PlainObject}
use Rattle.std.specs.declared.vec.Vec.{Vec}
use Rattle.txn.specs.Edits.{Edit, Create, Remove, SetXattr, RemoveXattr, SetKey, RemoveKey, SetLength, Write}
use Rattle.txn.specs.declared.edit.Edit as code
use Rattle.txn.specs.declared.edit.Edit.TheVariants as codes
use Rattle.txn.specs.declared.staged.Newest.{Newest}
use Rattle.txn.specs.declared.staged.Newest.TheVariants.{Untouched, Written}
use Rattle.txn.specs.declared.change.After.{After}
use Rattle.txn.specs.declared.change.After.TheVariants.{Same, Made}

-- the newest version: the object that was given until a call writes
abbrev pub shown : Option (Bor Content) → Newest → PlainObject
shown base Untouched = option_copied base
shown base (Written object) = object

-- the object that a change leaves: the one before it, or what a call made
abbrev pub left : PlainObject → After → PlainObject
left before Same = before
left before (Made object) = object

-- the edit that the code's own is
abbrev pub edit_of : code.Edit → Edit
edit_of codes.Create = Create
edit_of codes.Remove = Remove
edit_of (codes.SetXattr name value) = SetXattr name.now value.now
edit_of (codes.RemoveXattr name) = RemoveXattr name.now
edit_of (codes.SetKey key value) = SetKey key.now value.now
edit_of (codes.RemoveKey key) = RemoveKey key.now
edit_of (codes.SetLength len) = SetLength len
edit_of (codes.Write at text) = Write at text.now

-- the lengths of its texts fit their fields
abbrev pub IsShort : code.Edit → Type 0
IsShort codes.Create = Unit {0}
IsShort codes.Remove = Unit {0}
IsShort (codes.SetXattr name value) = (length name.now < 2 ^ 16) × (length value.now < 2 ^ 16)
IsShort (codes.RemoveXattr name) = length name.now < 2 ^ 16
IsShort (codes.SetKey key value) = (length key.now < 2 ^ 16) × (length value.now < 2 ^ 16)
IsShort (codes.RemoveKey key) = length key.now < 2 ^ 16
IsShort (codes.SetLength len) = Unit {0}
IsShort (codes.Write at text) = length text.now < 2 ^ 32

-- the creation of an object that was absent
abbrev pub creation : Bool → List Edit
creation true = Create ∷ []
creation false = []

-- the edits of the code's own one, which may be none
abbrev pub edits_of : Option code.Edit → List Edit
edits_of None = []
edits_of (Some e) = edit_of e ∷ []

abbrev pub AreShort : Option code.Edit → Type 0
AreShort None = Unit {0}
AreShort (Some e) = IsShort e

-- the bytes of the list that is kept
abbrev pub kept : {A : Type 0} → Option (Vec ℕ A) → Option (List ℕ)
kept None = None
kept (Some list) = Some list.items
