-- The edits of each helper make of the object before the object after.
use Rattle.std.proofs.Common.{◌≡◌, ℕ, ◌+◌, ◌<◌, ◌^◌, List, [], ◌∷◌, Option, Some, None, Ok, Err, Bool, true, false, refl, ap, ◌∙◌, sym, subst, arith, length, nat_lt}
use Rattle.std.specs.Prelude.{if◌then◌else◌, ◌==◌, not}
use Rattle.std.specs.FinMap as fin
use Rattle.object_store.specs.Object.{Content, PlainObject, content_of, spliced, resized}
use Rattle.object_store.specs.Calls as calls
use Rattle.object_store.specs.Limits.{profile}
use Rattle.object_store.specs.declared.limits.TheConstants.{DATA_LIMIT, VALUE_LIMIT, XATTR_LIMIT, KEY_LIMIT}
use Rattle.object_store.specs.declared.store_error.StoreError.TheVariants.{TooBig, Range, NoAttr}
use Rattle.txn.specs.Edits as edit
use Rattle.txn.specs.Edits.{Edit, there, and_then, edited, all_edited, created, creating, write_edits}
use Rattle.helpers.specs.declared.errno.TheConstants.{EEXIST, EINVAL, EFBIG, ENOSPC, ENODATA}
use Rattle.helpers.specs.declared.helper.Helper.{Helper}
use Rattle.helpers.specs.declared.helper.Helper.TheVariants.{Stat, Read, Write, Truncate, Remove, GetXattr, SetXattr, RmXattr, MapGet, MapSet, MapRm, MapNext, OutLen, Create, Caller, Compare, Copy, XattrNext}
use Rattle.helpers.specs.Effect.{Given, number, text, Effect, refused, changes, is_full}
use Rattle.helpers.specs.Table.{row, effect_of, helper_of, write_effect, truncate_effect, remove_effect, setxattr_effect, rmxattr_effect, map_set_effect, map_rm_effect, create_effect}
use Rattle.helpers.specs.Edits.{edits_row, if_done, edits_of, EditsLead}
use Rattle.helpers.proofs.Limits.{not_not, set_in_is, two_tests, le_from, at_profile, profile_is}
use Rattle.helpers.proofs.Noted.{done, none}
use Rattle.std.proofs.lemmas.Bool.{cond-true}

-- these edits, where the helper did this
abbrev Lead : List Edit → PlainObject → Effect → Type 0
Lead es object e = all_edited (if_done e.answer es) object ≡ Ok e.object

nothing_done : (object : PlainObject) (e : Effect) → e.object ≡ object → Lead [] object e
nothing_done object e same = ap (λ es. all_edited es object) (none e.answer) ∙ ap Ok (sym same)

lead_changes : (es : List Edit) (object after : PlainObject) (n : ℕ) → n < 2 ^ 63 → all_edited es object ≡ Ok after → Lead es object (changes after n)
lead_changes es object after n h e = ap (λ fs. all_edited fs object) (done n es h) ∙ e

-- a refusal leaves none
lead_if : (es : List Edit) (object : PlainObject) (errno : ℕ) (b : Bool) (e : Effect) → Lead es object (refused errno object) → (b ≡ false → Lead es object e) → Lead es object (if b then refused errno object else e)
lead_if es object errno true e r h = r
lead_if es object errno false e r h = h refl

-- one edit after the creation of an absent object
lead_creating : (object : PlainObject) (e : Edit) (c : Content) → edited e (Some (content_of object)) ≡ Ok (Some c) → all_edited (creating object e) object ≡ Ok (Some c)
lead_creating None e c h = ap (λ r. and_then r (λ o. Ok o)) h
lead_creating (Some o) e c h = ap (λ r. and_then r (λ o. Ok o)) h

creates : (object : PlainObject) → all_edited (created object) object ≡ Ok (Some (content_of object))
creates None = refl
creates (Some o) = refl

pub spliced_none : (bytes : List ℕ) (at : ℕ) (text : List ℕ) → (length text == 0) ≡ true → spliced bytes at text ≡ bytes
spliced_none bytes at text e = cond-true (length text == 0) bytes _ e

write_leads : (object : PlainObject) (at : ℕ) (bytes : List ℕ) → Lead (write_edits object at bytes) object (write_effect profile object at bytes)
write_leads object at bytes =
    let c : Content = record (content_of object) { bytes = spliced (content_of object).bytes at bytes } in
    lead_if _ object EFBIG (nat_lt DATA_LIMIT (at + length bytes)) _ refl (λ e.
    let fits = le_from DATA_LIMIT (at + length bytes) e in
    lead_changes _ object (Some c) (length bytes) (omega (arith, fits)) (by (length bytes == 0) refl e))
  where
    by : (b : Bool) → (length bytes == 0) ≡ b → nat_lt DATA_LIMIT (at + length bytes) ≡ false → all_edited (write_edits object at bytes) object ≡ Ok (Some (record (content_of object) { bytes = spliced (content_of object).bytes at bytes }))
    by true z e =
        ap (λ b. all_edited (if b then created object else creating object (edit.Write at bytes)) object) z
        ∙ creates object
        ∙ ap (λ t. Ok (Some (record (content_of object) { bytes = t }))) (sym (spliced_none (content_of object).bytes at bytes z))
    by false z e =
        ap (λ b. all_edited (if b then created object else creating object (edit.Write at bytes)) object) z
        ∙ lead_creating object (edit.Write at bytes) (record (content_of object) { bytes = spliced (content_of object).bytes at bytes })
        (ap (λ b. there (if b then Err TooBig else Ok (record (content_of object) { bytes = spliced (content_of object).bytes at bytes }))) e)

truncate_leads : (object : PlainObject) (size : ℕ) → Lead (edit.SetLength size ∷ []) object (truncate_effect profile object size)
truncate_leads None size = lead_if _ None EFBIG (nat_lt DATA_LIMIT size) _ refl (λ e. refl)
truncate_leads (Some o) size =
    lead_if _ (Some o) EFBIG (nat_lt DATA_LIMIT size) _ refl (λ e.
    ap (λ b. and_then (there (if b then Err TooBig else Ok (record o { bytes = resized o.bytes size }))) (λ o. Ok o)) e)

remove_leads : (object : PlainObject) → Lead (edit.Remove ∷ []) object (remove_effect object)
remove_leads None = refl
remove_leads (Some o) = refl

setxattr_leads : (object : PlainObject) (name value : List ℕ) → Lead (creating object (edit.SetXattr name value)) object (setxattr_effect profile object name value)
setxattr_leads object name value =
    lead_if _ object EINVAL (not (calls.is_named name)) _ refl (λ e.
    lead_if _ object EFBIG (nat_lt VALUE_LIMIT (length value)) _ refl (λ s.
    lead_if _ object ENOSPC (is_full (Some XATTR_LIMIT) (content_of object).xattrs name) _ refl (λ f.
    let c : Content = record (content_of object) { xattrs = fin.insert (content_of object).xattrs name value } in
    lead_creating object (edit.SetXattr name value) c
    (ap there (two_tests (calls.is_named name) (nat_lt VALUE_LIMIT (length value)) _ (not_not _ e) s
    ∙ ap (calls.with_xattrs (content_of object)) (set_in_is XATTR_LIMIT (content_of object).xattrs name value f))))))

map_set_leads : (object : PlainObject) (key value : List ℕ) → Lead (creating object (edit.SetKey key value)) object (map_set_effect profile object key value)
map_set_leads object key value =
    lead_if _ object EINVAL (not (calls.is_named key)) _ refl (λ e.
    lead_if _ object EFBIG (nat_lt VALUE_LIMIT (length value)) _ refl (λ s.
    lead_if _ object ENOSPC (is_full (Some KEY_LIMIT) (content_of object).omap key) _ refl (λ f.
    let c : Content = record (content_of object) { omap = fin.insert (content_of object).omap key value } in
    lead_creating object (edit.SetKey key value) c
    (ap there (two_tests (calls.is_named key) (nat_lt VALUE_LIMIT (length value)) _ (not_not _ e) s
    ∙ ap (calls.with_omap (content_of object)) (set_in_is KEY_LIMIT (content_of object).omap key value f))))))

rmxattr_leads : (object : PlainObject) (name : List ℕ) → Lead (edit.RemoveXattr name ∷ []) object (rmxattr_effect profile object name)
rmxattr_leads None name = lead_if _ None EINVAL (not (calls.is_named name)) _ refl (λ e. refl)
rmxattr_leads (Some o) name =
    lead_if _ (Some o) EINVAL (not (calls.is_named name)) _ refl (λ e.
    lead_if _ (Some o) ENODATA (not (fin.contains_key o.xattrs name)) _ refl (λ f.
    ap (λ b. and_then (there (if b then calls.with_xattrs o (calls.removed_in o.xattrs name) else Err Range)) (λ o. Ok o)) (not_not _ e)
    ∙ ap (λ b. and_then (there (calls.with_xattrs o (if b then Ok (fin.remove o.xattrs name) else Err NoAttr))) (λ o. Ok o)) (not_not _ f)))

map_rm_leads : (object : PlainObject) (key : List ℕ) → Lead (edit.RemoveKey key ∷ []) object (map_rm_effect profile object key)
map_rm_leads None key = lead_if _ None EINVAL (not (calls.is_named key)) _ refl (λ e. refl)
map_rm_leads (Some o) key =
    lead_if _ (Some o) EINVAL (not (calls.is_named key)) _ refl (λ e.
    lead_if _ (Some o) ENODATA (not (fin.contains_key o.omap key)) _ refl (λ f.
    ap (λ b. and_then (there (if b then calls.with_omap o (calls.removed_in o.omap key) else Err Range)) (λ o. Ok o)) (not_not _ e)
    ∙ ap (λ b. and_then (there (calls.with_omap o (if b then Ok (fin.remove o.omap key) else Err NoAttr))) (λ o. Ok o)) (not_not _ f)))

create_leads : (object : PlainObject) (exclusive : ℕ) → Lead (created object) object (create_effect object exclusive)
create_leads None exclusive = refl
create_leads (Some o) exclusive = by (exclusive == 0)
  where
    by : (b : Bool) → Lead [] (Some o) (if b then changes (Some o) 0 else refused EEXIST (Some o))
    by true = refl
    by false = refl

row_leads : (h : Helper) (object : PlainObject) (g : Given) → Lead (edits_row h object (at_profile g)) object ((row h).effect object (at_profile g))
row_leads Stat object g = nothing_done object ((row Stat).effect object (at_profile g)) refl
row_leads Read object g = nothing_done object ((row Read).effect object (at_profile g)) refl
row_leads Write object g = write_leads object (number g 0) (text g 0)
row_leads Truncate object g = truncate_leads object (number g 0)
row_leads Remove object g = remove_leads object
row_leads GetXattr object g = nothing_done object ((row GetXattr).effect object (at_profile g)) refl
row_leads SetXattr object g = setxattr_leads object (text g 0) (text g 1)
row_leads RmXattr object g = rmxattr_leads object (text g 0)
row_leads MapGet object g = nothing_done object ((row MapGet).effect object (at_profile g)) refl
row_leads MapSet object g = map_set_leads object (text g 0) (text g 1)
row_leads MapRm object g = map_rm_leads object (text g 0)
row_leads MapNext object g = nothing_done object ((row MapNext).effect object (at_profile g)) refl
row_leads OutLen object g = nothing_done object ((row OutLen).effect object (at_profile g)) refl
row_leads Create object g = create_leads object (number g 0)
row_leads Caller object g = nothing_done object ((row Caller).effect object (at_profile g)) refl
row_leads Compare object g = nothing_done object ((row Compare).effect object (at_profile g)) refl
row_leads Copy object g = nothing_done object ((row Copy).effect object (at_profile g)) refl
row_leads XattrNext object g = nothing_done object ((row XattrNext).effect object (at_profile g)) refl

pub edits_lead : EditsLead
edits_lead id object g p = subst (λ q. all_edited (edits_of (helper_of id) object q) object ≡ Ok (effect_of (helper_of id) object q).object) (profile_is g p) (by (helper_of id))
  where
    by : (o : Option Helper) → all_edited (edits_of o object (at_profile g)) object ≡ Ok (effect_of o object (at_profile g)).object
    by None = refl
    by (Some h) = row_leads h object g
