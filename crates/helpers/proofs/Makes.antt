-- By any host's limits the edits of each helper make of the object before the object after.
use Rattle.std.proofs.Common.{◌≡◌, ℕ, ◌+◌, List, [], ◌∷◌, Option, Some, None, Bool, true, false, refl, ap, ◌∙◌, sym, arith, length, nat_lt}
use Rattle.std.specs.Prelude.{if◌then◌else◌, ◌==◌, not}
use Rattle.std.specs.FinMap as fin
use Rattle.object_store.specs.Object.{PlainObject, content_of, spliced}
use Rattle.object_store.specs.declared.limits.Limits.{Limits}
use Rattle.object_store.specs.declared.limits.TheConstants.{VALUE_LIMIT}
use Rattle.object_store.specs.Calls.{is_named_within}
use Rattle.object_store.specs.Limits.{IsLimits}
use Rattle.txn.specs.Edits as edit
use Rattle.txn.specs.Edits.{Edit, created, creating, write_edits}
use Rattle.txn.specs.Made.{made, all_made}
use Rattle.helpers.specs.declared.errno.TheConstants.{EEXIST, EINVAL, EFBIG, ENOSPC, ENODATA}
use Rattle.helpers.specs.declared.helper.Helper.{Helper}
use Rattle.helpers.specs.declared.helper.Helper.TheVariants.{Stat, Read, Write, Truncate, Remove, GetXattr, SetXattr, RmXattr, MapGet, MapSet, MapRm, MapNext, OutLen, Create, Caller, Compare, Copy, XattrNext}
use Rattle.helpers.specs.Effect.{Given, number, text, Effect, refused, changes, is_full}
use Rattle.helpers.specs.Table.{row, effect_of, helper_of, write_effect, truncate_effect, remove_effect, setxattr_effect, rmxattr_effect, map_set_effect, map_rm_effect, create_effect}
use Rattle.helpers.specs.Edits.{edits_row, if_done, edits_of, EditsMake}
use Rattle.helpers.proofs.Limits.{le_from}
use Rattle.helpers.proofs.Noted.{done, none}
use Rattle.helpers.proofs.Leads.{spliced_none}

-- these edits, where the helper did this
record Makes (es : List Edit) (object : PlainObject) (e : Effect) : Type 0 where
  pub after : all_made (if_done e.answer es) object ≡ e.object

nothing_done : (object : PlainObject) (e : Effect) → e.object ≡ object → Makes [] object e
nothing_done object e same = record { after = ap (λ es. all_made es object) (none e.answer) ∙ sym same }

-- a refusal makes none
makes_if : (es : List Edit) (object : PlainObject) (errno : ℕ) (b : Bool) (e : Effect) → Makes es object (refused errno object) → (b ≡ false → Makes es object e) → Makes es object (if b then refused errno object else e)
makes_if es object errno true e r h = r
makes_if es object errno false e r h = h refl

-- one edit after the creation of an absent object
makes_creating : (object : PlainObject) (e : Edit) → all_made (creating object e) object ≡ made e (Some (content_of object))
makes_creating None e = refl
makes_creating (Some o) e = refl

creates : (object : PlainObject) → all_made (created object) object ≡ Some (content_of object)
creates None = refl
creates (Some o) = refl

write_makes : (l : Limits) → IsLimits l → (object : PlainObject) (at : ℕ) (bytes : List ℕ) → Makes (write_edits object at bytes) object (write_effect l object at bytes)
write_makes l ok object at bytes =
    makes_if _ object EFBIG (nat_lt l.bytes (at + length bytes)) _ (record { after = refl }) (λ e.
    let fits = le_from l.bytes (at + length bytes) e in
    record { after = ap (λ es. all_made es object) (done (length bytes) (write_edits object at bytes) (omega (arith, fits, ok.bytes))) ∙ by (length bytes == 0) refl })
  where
    by : (b : Bool) → (length bytes == 0) ≡ b → all_made (if b then created object else creating object (edit.Write at bytes)) object ≡ Some (record (content_of object) { bytes = spliced (content_of object).bytes at bytes })
    by true z = creates object ∙ ap (λ t. Some (record (content_of object) { bytes = t })) (sym (spliced_none (content_of object).bytes at bytes z))
    by false z = makes_creating object (edit.Write at bytes)

truncate_makes : (l : Limits) (object : PlainObject) (size : ℕ) → Makes (edit.SetLength size ∷ []) object (truncate_effect l object size)
truncate_makes l None size = makes_if _ None EFBIG (nat_lt l.bytes size) _ (record { after = refl }) (λ e. record { after = refl })
truncate_makes l (Some o) size = makes_if _ (Some o) EFBIG (nat_lt l.bytes size) _ (record { after = refl }) (λ e. record { after = refl })

remove_makes : (object : PlainObject) → Makes (edit.Remove ∷ []) object (remove_effect object)
remove_makes None = record { after = refl }
remove_makes (Some o) = record { after = refl }

setxattr_makes : (l : Limits) (object : PlainObject) (name value : List ℕ) → Makes (creating object (edit.SetXattr name value)) object (setxattr_effect l object name value)
setxattr_makes l object name value =
    makes_if _ object EINVAL (not (is_named_within l.xattrs.length name)) _ (record { after = refl }) (λ e.
    makes_if _ object EFBIG (nat_lt VALUE_LIMIT (length value)) _ (record { after = refl }) (λ s.
    makes_if _ object ENOSPC (is_full l.xattrs.count (content_of object).xattrs name) _ (record { after = refl }) (λ f.
    record { after = makes_creating object (edit.SetXattr name value) })))

map_set_makes : (l : Limits) (object : PlainObject) (key value : List ℕ) → Makes (creating object (edit.SetKey key value)) object (map_set_effect l object key value)
map_set_makes l object key value =
    makes_if _ object EINVAL (not (is_named_within l.keys.length key)) _ (record { after = refl }) (λ e.
    makes_if _ object EFBIG (nat_lt VALUE_LIMIT (length value)) _ (record { after = refl }) (λ s.
    makes_if _ object ENOSPC (is_full l.keys.count (content_of object).omap key) _ (record { after = refl }) (λ f.
    record { after = makes_creating object (edit.SetKey key value) })))

rmxattr_makes : (l : Limits) (object : PlainObject) (name : List ℕ) → Makes (edit.RemoveXattr name ∷ []) object (rmxattr_effect l object name)
rmxattr_makes l None name = makes_if _ None EINVAL (not (is_named_within l.xattrs.length name)) _ (record { after = refl }) (λ e. record { after = refl })
rmxattr_makes l (Some o) name =
    makes_if _ (Some o) EINVAL (not (is_named_within l.xattrs.length name)) _ (record { after = refl }) (λ e.
    makes_if _ (Some o) ENODATA (not (fin.contains_key o.xattrs name)) _ (record { after = refl }) (λ f. record { after = refl }))

map_rm_makes : (l : Limits) (object : PlainObject) (key : List ℕ) → Makes (edit.RemoveKey key ∷ []) object (map_rm_effect l object key)
map_rm_makes l None key = makes_if _ None EINVAL (not (is_named_within l.keys.length key)) _ (record { after = refl }) (λ e. record { after = refl })
map_rm_makes l (Some o) key =
    makes_if _ (Some o) EINVAL (not (is_named_within l.keys.length key)) _ (record { after = refl }) (λ e.
    makes_if _ (Some o) ENODATA (not (fin.contains_key o.omap key)) _ (record { after = refl }) (λ f. record { after = refl }))

create_makes : (object : PlainObject) (exclusive : ℕ) → Makes (created object) object (create_effect object exclusive)
create_makes None exclusive = record { after = refl }
create_makes (Some o) exclusive = by (exclusive == 0)
  where
    by : (b : Bool) → Makes [] (Some o) (if b then changes (Some o) 0 else refused EEXIST (Some o))
    by true = record { after = refl }
    by false = record { after = refl }

row_makes : (h : Helper) (object : PlainObject) (g : Given) → IsLimits g.limits → Makes (edits_row h object g) object ((row h).effect object g)
row_makes Stat object g l = nothing_done object ((row Stat).effect object g) refl
row_makes Read object g l = nothing_done object ((row Read).effect object g) refl
row_makes Write object g l = write_makes g.limits l object (number g 0) (text g 0)
row_makes Truncate object g l = truncate_makes g.limits object (number g 0)
row_makes Remove object g l = remove_makes object
row_makes GetXattr object g l = nothing_done object ((row GetXattr).effect object g) refl
row_makes SetXattr object g l = setxattr_makes g.limits object (text g 0) (text g 1)
row_makes RmXattr object g l = rmxattr_makes g.limits object (text g 0)
row_makes MapGet object g l = nothing_done object ((row MapGet).effect object g) refl
row_makes MapSet object g l = map_set_makes g.limits object (text g 0) (text g 1)
row_makes MapRm object g l = map_rm_makes g.limits object (text g 0)
row_makes MapNext object g l = nothing_done object ((row MapNext).effect object g) refl
row_makes OutLen object g l = nothing_done object ((row OutLen).effect object g) refl
row_makes Create object g l = create_makes object (number g 0)
row_makes Caller object g l = nothing_done object ((row Caller).effect object g) refl
row_makes Compare object g l = nothing_done object ((row Compare).effect object g) refl
row_makes Copy object g l = nothing_done object ((row Copy).effect object g) refl
row_makes XattrNext object g l = nothing_done object ((row XattrNext).effect object g) refl

pub edits_make : EditsMake
edits_make id object g l = by (helper_of id)
  where
    by : (o : Option Helper) → all_made (edits_of o object g) object ≡ (effect_of o object g).object
    by None = refl
    by (Some h) = (row_makes h object g l).after
