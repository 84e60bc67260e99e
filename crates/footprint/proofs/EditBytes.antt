-- How many bytes the edits of a helper have.
use Rattle.std.proofs.Common.{◌≡◌, ℕ, ◌+◌, ◌^◌, ◌≤◌, Bool, true, false, List, [], ◌∷◌, ◌++◌, Option, Some, None, arith, length}
use Rattle.std.specs.Prelude.{if◌then◌else◌, nat_lt, ◌==◌}
use Rattle.std.proofs.lemmas.List.{length-append}
use Rattle.object_store.specs.Object.{PlainObject}
use Rattle.txn.specs.Edits as edit
use Rattle.txn.specs.Edits.{Edit, spelled, text_bytes, counted_bytes, placed_bytes, edit_bytes, created, creating, write_edits}
use Rattle.helpers.specs.declared.helper.Helper.{Helper}
use Rattle.helpers.specs.declared.helper.Helper.TheVariants.{Stat, Read, Write, Truncate, Remove, GetXattr, SetXattr, RmXattr, MapGet, MapSet, MapRm, MapNext, OutLen, Create, Caller, Compare, Copy, XattrNext}
use Rattle.helpers.specs.Effect.{Given, number, text}
use Rattle.helpers.specs.Table.{row, helper_of}
use Rattle.helpers.specs.Edits.{if_done, edits_row, edits_of}
use Rattle.footprint.specs.Lengths.{list_length, EditsAreShort}

-- ---- of one edit
text_length : (t : List ℕ) → length (text_bytes t) ≡ 2 + length t
text_length t = omega arith

counted_length : (t : List ℕ) → length (counted_bytes t) ≡ 4 + length t
counted_length t = omega arith

placed_length : (at : ℕ) (t : List ℕ) → length (placed_bytes at t) ≡ 12 + length t
placed_length at t = omega arith

pair_length : (name value : List ℕ) → length (text_bytes name ++ text_bytes value) ≡ 4 + (length name + length value)
pair_length name value =
    omega (arith, length-append (text_bytes name) (text_bytes value), text_length name, text_length value)

-- ---- of a list of one or two
one_length : (e : Edit) → list_length (e ∷ []) ≡ length (edit_bytes e)
one_length e = omega (arith, length-append (edit_bytes e) [])

pub created_length : (o : PlainObject) → list_length (created o) ≤ 1
created_length None = omega arith
created_length (Some c) = omega arith

creating_length : (o : PlainObject) (e : Edit) → list_length (creating o e) ≤ 1 + length (edit_bytes e)
creating_length None e = omega (arith, one_length e)
creating_length (Some c) e = omega (arith, one_length e)

pub write_length : (o : PlainObject) (at : ℕ) (t : List ℕ) → list_length (write_edits o at t) ≤ 14 + length t
write_length o at t = by (length t == 0)
  where
    by : (b : Bool) → list_length (if b then created o else creating o (edit.Write at t)) ≤ 14 + length t
    by true = omega (arith, created_length o)
    by false = omega (arith, creating_length o (edit.Write at t), placed_length at t)

pub set_xattr_length : (o : PlainObject) (name value : List ℕ) → list_length (creating o (edit.SetXattr name value)) ≤ 6 + (length name + length value)
set_xattr_length o name value = omega (arith, creating_length o (edit.SetXattr name value), pair_length name value)

pub set_key_length : (o : PlainObject) (key value : List ℕ) → list_length (creating o (edit.SetKey key value)) ≤ 6 + (length key + length value)
set_key_length o key value = omega (arith, creating_length o (edit.SetKey key value), pair_length key value)

pub remove_xattr_length : (name : List ℕ) → list_length (edit.RemoveXattr name ∷ []) ≤ 3 + length name
remove_xattr_length name = omega (arith, one_length (edit.RemoveXattr name), text_length name)

pub remove_key_length : (key : List ℕ) → list_length (edit.RemoveKey key ∷ []) ≤ 3 + length key
remove_key_length key = omega (arith, one_length (edit.RemoveKey key), text_length key)

-- ---- of a helper
-- none has none
pub no_length : (n : ℕ) → list_length [] ≤ n
no_length n = omega arith

pub done_length : (answer n : ℕ) (es : List Edit) → list_length es ≤ n → list_length (if_done answer es) ≤ n
done_length answer n es h = by (nat_lt answer (2 ^ 63))
  where
    by : (b : Bool) → list_length (if b then es else []) ≤ n
    by true = h
    by false = no_length n

row_length : (h : Helper) (o : PlainObject) (g : Given) → list_length (edits_row h o g) ≤ 14 + (length (text g 0) + length (text g 1))
row_length Stat o g = no_length _
row_length Read o g = no_length _
row_length Write o g = omega (arith, write_length o (number g 0) (text g 0))
row_length Truncate o g = omega arith
row_length Remove o g = omega arith
row_length GetXattr o g = no_length _
row_length SetXattr o g = omega (arith, set_xattr_length o (text g 0) (text g 1))
row_length RmXattr o g = omega (arith, remove_xattr_length (text g 0))
row_length MapGet o g = no_length _
row_length MapSet o g = omega (arith, set_key_length o (text g 0) (text g 1))
row_length MapRm o g = omega (arith, remove_key_length (text g 0))
row_length MapNext o g = no_length _
row_length OutLen o g = no_length _
row_length Create o g = omega (arith, created_length o)
row_length Caller o g = no_length _
row_length Compare o g = no_length _
row_length Copy o g = no_length _
row_length XattrNext o g = no_length _

pub edits_are_short : EditsAreShort
edits_are_short id o g = by (helper_of id)
  where
    by : (h : Option Helper) → list_length (edits_of h o g) ≤ 14 + (length (text g 0) + length (text g 1))
    by None = no_length _
    by (Some h) = done_length ((row h).effect o g).answer _ (edits_row h o g) (row_length h o g)
