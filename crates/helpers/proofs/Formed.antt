-- What each helper leaves of a well-formed object is well formed, by any host's limits.
use Rattle.std.proofs.Common.{◌≡◌, ℕ, ◌+◌, ◌-◌, ◌^◌, ◌≤◌, List, Option, Some, None, Bool, true, false, not, ◌&&◌, refl, subst, arith, length, nat_lt}
use Rattle.std.specs.Prelude.{if◌then◌else◌, ◌==◌, drop}
use Rattle.std.specs.List.{AllByRecursion}
use Rattle.std.specs.FinMap as fin
use Rattle.std.proofs.lemmas.List.{length-take}
use Rattle.std.proofs.lemmas.Bool.{eqb-false}
use Rattle.object_store.specs.Object.{Attributes, Content, PlainObject, AreBytes, IsName, IsValue, nothing, content_of, part, spliced, resized}
use Rattle.object_store.specs.Limits.{IsLimits, AreNames, IsWellFormed, IsAnyObject}
use Rattle.object_store.specs.declared.limits.Limits.{Limits}
use Rattle.object_store.specs.declared.limits.TheConstants.{NAME_LIMIT, VALUE_LIMIT}
use Rattle.object_store.specs.Calls.{is_named_within}
use Rattle.helpers.specs.declared.helper.Helper.{Helper}
use Rattle.helpers.specs.declared.helper.Helper.TheVariants.{Stat, Read, Write, Truncate, Remove, GetXattr, SetXattr, RmXattr, MapGet, MapSet, MapRm, MapNext, OutLen, Create, Caller, Compare, Copy, XattrNext}
use Rattle.helpers.specs.declared.errno.TheConstants.{EEXIST, EINVAL, EFBIG, ENOSPC, ENODATA}
use Rattle.helpers.specs.Effect.{Given, number, text, Answer, refuses, Effect, leaves, refused, changes, on_present, is_full}
use Rattle.helpers.specs.Table.{row, effect_of, helper_of, write_effect, truncate_effect, setxattr_effect, rmxattr_effect, map_set_effect, map_rm_effect, create_effect, read_answer}
use Rattle.helpers.specs.Laws.{KeepsTheForm, EffectsKeepTheForm}
use Rattle.helpers.proofs.Limits.{IsCopied, none_copied, copied_if, copied_present, copy_copied, order_copied, value_copied, key_copied, le_from, not_not, text_is}

-- what changes do to data and names
pub record Forms : Type 0 where
  pub are_part : (bytes : List ℕ) (at n : ℕ) → AreBytes bytes → AreBytes (part bytes at n)
  pub are_spliced : (bytes : List ℕ) (at : ℕ) (text : List ℕ) → AreBytes bytes → AreBytes text → AreBytes (spliced bytes at text)
  pub splice_fits : (bytes : List ℕ) (at : ℕ) (text : List ℕ) (most : ℕ) → length bytes ≤ most → at + length text ≤ most → length (spliced bytes at text) ≤ most
  pub are_resized : (bytes : List ℕ) (len : ℕ) → AreBytes bytes → AreBytes (resized bytes len)
  pub resized_length : (bytes : List ℕ) (len : ℕ) → length (resized bytes len) ≡ len
  pub none : AreNames fin.empty
  pub inserted : (m : Attributes) (name value : List ℕ) → AreNames m → IsName name → IsValue value → AreNames (fin.insert m name value)
  pub removed : (m : Attributes) (name : List ℕ) → AreNames m → AreNames (fin.remove m name)

left : (room : ℕ) (object : PlainObject) (a : Answer) → IsAnyObject object → IsCopied room a → KeepsTheForm room (leaves object a)
left room object a h k = record { object = h; bytes = k.bytes; short = k.short }

no_bytes : (room : ℕ) (object : PlainObject) (n : ℕ) → IsAnyObject object → KeepsTheForm room (changes object n)
no_bytes room object n h = record { object = h; bytes = tt; short = omega arith }

effect_if : (room errno : ℕ) (object : PlainObject) (b : Bool) (e : Effect) → IsAnyObject object → (b ≡ false → KeepsTheForm room e) → KeepsTheForm room (if b then refused errno object else e)
effect_if room errno object true e h k = left room object (refuses errno) h (none_copied room _)
effect_if room errno object false e h k = k refl

effect_present : (room : ℕ) (object : PlainObject) (effect : Content → Effect) → ((o : Content) → object ≡ Some o → KeepsTheForm room (effect o)) → KeepsTheForm room (on_present object effect)
effect_present room None effect h = left room None _ tt (none_copied room _)
effect_present room (Some o) effect h = h o refl

is_name : (most : ℕ) (name : List ℕ) → most ≤ NAME_LIMIT → AreBytes name → is_named_within most name ≡ true → IsName name
is_name most name le h e = by (length name == 0) (nat_lt most (length name)) refl refl e
  where
    by : (a b : Bool) → (length name == 0) ≡ a → nat_lt most (length name) ≡ b → (not a && not b) ≡ true → IsName name
    by true b p q f = absurd (cc)
    by false true p q f = absurd (cc)
    by false false p q f =
        let some = eqb-false (length name) 0 p in
        let short = le_from most (length name) q in (omega (arith, some), omega (arith, short, le), h)

module _ (forms : Forms) (limits : Limits) (l : IsLimits limits) (room : ℕ) where
  content_is : (object : PlainObject) → IsAnyObject object → IsWellFormed (content_of object)
  content_is None h = record { length = omega arith; bytes = tt; xattrs = forms.none; omap = forms.none }
  content_is (Some o) h = h

  write_is : (object : PlainObject) (at : ℕ) (bytes : List ℕ) → IsAnyObject object → AreBytes bytes → KeepsTheForm room (write_effect limits object at bytes)
  write_is object at bytes h k =
      effect_if room EFBIG object (nat_lt limits.bytes (at + length bytes)) _ h (λ e.
      let w = content_is object h in
      let fits = le_from limits.bytes (at + length bytes) e in
      let most = l.bytes in
      let old = w.length in
      let short = forms.splice_fits (content_of object).bytes at bytes (2 ^ 63 - 1) (omega (arith, old)) (omega (arith, fits, most)) in
      no_bytes room (Some (record (content_of object) { bytes = spliced (content_of object).bytes at bytes })) (length bytes)
      (record { length = omega (arith, short); bytes = forms.are_spliced (content_of object).bytes at bytes w.bytes k; xattrs = w.xattrs; omap = w.omap }))

  truncate_is : (object : PlainObject) (size : ℕ) → IsAnyObject object → KeepsTheForm room (truncate_effect limits object size)
  truncate_is object size h =
      effect_if room EFBIG object (nat_lt limits.bytes size) _ h (λ e.
      effect_present room object _ (λ o s.
      let w : IsWellFormed o = subst IsAnyObject s h in
      let fits = le_from limits.bytes size e in
      let most = l.bytes in
      let long = forms.resized_length o.bytes size in
      no_bytes room (Some (record o { bytes = resized o.bytes size })) 0
      (record { length = omega (arith, long, fits, most); bytes = forms.are_resized o.bytes size w.bytes; xattrs = w.xattrs; omap = w.omap })))

  setxattr_is : (object : PlainObject) (name value : List ℕ) → IsAnyObject object → AreBytes name → AreBytes value → KeepsTheForm room (setxattr_effect limits object name value)
  setxattr_is object name value h n v =
      effect_if room EINVAL object (not (is_named_within limits.xattrs.length name)) _ h (λ e.
      effect_if room EFBIG object (nat_lt VALUE_LIMIT (length value)) _ h (λ s.
      effect_if room ENOSPC object (is_full limits.xattrs.count (content_of object).xattrs name) _ h (λ f.
      let w = content_is object h in
      no_bytes room (Some (record (content_of object) { xattrs = fin.insert (content_of object).xattrs name value })) 0
      (record {
        length = w.length;
        bytes = w.bytes;
        xattrs = forms.inserted (content_of object).xattrs name value w.xattrs (is_name limits.xattrs.length name l.xattr_names n (not_not _ e)) (le_from _ _ s, v);
        omap = w.omap;
      }))))

  map_set_is : (object : PlainObject) (key value : List ℕ) → IsAnyObject object → AreBytes key → AreBytes value → KeepsTheForm room (map_set_effect limits object key value)
  map_set_is object key value h n v =
      effect_if room EINVAL object (not (is_named_within limits.keys.length key)) _ h (λ e.
      effect_if room EFBIG object (nat_lt VALUE_LIMIT (length value)) _ h (λ s.
      effect_if room ENOSPC object (is_full limits.keys.count (content_of object).omap key) _ h (λ f.
      let w = content_is object h in
      no_bytes room (Some (record (content_of object) { omap = fin.insert (content_of object).omap key value })) 0
      (record {
        length = w.length;
        bytes = w.bytes;
        xattrs = w.xattrs;
        omap = forms.inserted (content_of object).omap key value w.omap (is_name limits.keys.length key l.key_names n (not_not _ e)) (le_from _ _ s, v);
      }))))

  rmxattr_is : (object : PlainObject) (name : List ℕ) → IsAnyObject object → KeepsTheForm room (rmxattr_effect limits object name)
  rmxattr_is object name h =
      effect_if room EINVAL object (not (is_named_within limits.xattrs.length name)) _ h (λ e.
      effect_present room object _ (λ o s.
      let w : IsWellFormed o = subst IsAnyObject s h in
      effect_if room ENODATA (Some o) (not (fin.contains_key o.xattrs name)) _ w (λ f.
      no_bytes room (Some (record o { xattrs = fin.remove o.xattrs name })) 0
      (record { length = w.length; bytes = w.bytes; xattrs = forms.removed o.xattrs name w.xattrs; omap = w.omap }))))

  map_rm_is : (object : PlainObject) (key : List ℕ) → IsAnyObject object → KeepsTheForm room (map_rm_effect limits object key)
  map_rm_is object key h =
      effect_if room EINVAL object (not (is_named_within limits.keys.length key)) _ h (λ e.
      effect_present room object _ (λ o s.
      let w : IsWellFormed o = subst IsAnyObject s h in
      effect_if room ENODATA (Some o) (not (fin.contains_key o.omap key)) _ w (λ f.
      no_bytes room (Some (record o { omap = fin.remove o.omap key })) 0
      (record { length = w.length; bytes = w.bytes; xattrs = w.xattrs; omap = forms.removed o.omap key w.omap }))))

  create_is : (object : PlainObject) (exclusive : ℕ) → IsAnyObject object → KeepsTheForm room (create_effect object exclusive)
  create_is None exclusive h = no_bytes room (Some nothing) 0 (content_is None tt)
  create_is (Some o) exclusive h = by (exclusive == 0)
    where
      by : (b : Bool) → KeepsTheForm room (if b then changes (Some o) 0 else refused EEXIST (Some o))
      by true = no_bytes room (Some o) 0 h
      by false = left room (Some o) _ h (none_copied room _)

  read_is : (object : PlainObject) (at : ℕ) → IsAnyObject object → IsCopied room (read_answer object at room)
  read_is object at h =
      copied_present room object _ (λ o s.
      let w : IsWellFormed o = subst IsAnyObject s h in
      record { bytes = forms.are_part o.bytes at room w.bytes; short = omega (arith, length-take room (drop at o.bytes)) })

row_is : Forms → (helper : Helper) (object : PlainObject) (g : Given) → IsLimits g.limits → IsAnyObject object → AllByRecursion AreBytes g.texts → KeepsTheForm g.room ((row helper).effect object g)
row_is forms Stat object g l h t = left g.room object _ h (copied_present g.room object _ (λ o s. none_copied g.room _))
row_is forms Read object g l h t = left g.room object _ h (read_is forms g.limits l g.room object (number g 0) h)
row_is forms Write object g l h t = write_is forms g.limits l g.room object (number g 0) (text g 0) h (text_is g.texts 0 t)
row_is forms Truncate object g l h t = truncate_is forms g.limits l g.room object (number g 0) h
row_is forms Remove object g l h t = effect_present g.room object _ (λ o s. no_bytes g.room None 0 tt)
row_is forms GetXattr object g l h t =
    left g.room object _ h (copied_if g.room EINVAL _ _ (λ _. copied_present g.room object _ (λ o s. value_copied g.room o.xattrs (text g 0) (subst IsAnyObject s h).xattrs)))
row_is forms SetXattr object g l h t = setxattr_is forms g.limits l g.room object (text g 0) (text g 1) h (text_is g.texts 0 t) (text_is g.texts 1 t)
row_is forms RmXattr object g l h t = rmxattr_is forms g.limits l g.room object (text g 0) h
row_is forms MapGet object g l h t =
    left g.room object _ h (copied_if g.room EINVAL _ _ (λ _. copied_present g.room object _ (λ o s. value_copied g.room o.omap (text g 0) (subst IsAnyObject s h).omap)))
row_is forms MapSet object g l h t = map_set_is forms g.limits l g.room object (text g 0) (text g 1) h (text_is g.texts 0 t) (text_is g.texts 1 t)
row_is forms MapRm object g l h t = map_rm_is forms g.limits l g.room object (text g 0) h
row_is forms MapNext object g l h t =
    left g.room object _ h (copied_if g.room EINVAL _ _ (λ _. copied_present g.room object _ (λ o s. key_copied g.room o.omap (text g 0) (subst IsAnyObject s h).omap)))
row_is forms OutLen object g l h t = record { object = h; bytes = tt; short = omega arith }
row_is forms Create object g l h t = create_is forms g.limits l g.room object (number g 0) h
row_is forms Caller object g l h t = left g.room object _ h (none_copied g.room _)
row_is forms Compare object g l h t = left g.room object _ h (order_copied g.room _)
row_is forms Copy object g l h t = left g.room object _ h (copy_copied g.room (text g 0) (text_is g.texts 0 t))
row_is forms XattrNext object g l h t =
    left g.room object _ h (copied_if g.room EINVAL _ _ (λ _. copied_present g.room object _ (λ o s. key_copied g.room o.xattrs (text g 0) (subst IsAnyObject s h).xattrs)))

pub forms_are_kept : Forms → EffectsKeepTheForm
forms_are_kept forms id object g l h t = by (helper_of id)
  where
    by : (o : Option Helper) → KeepsTheForm g.room (effect_of o object g)
    by None = left g.room object _ h (none_copied g.room _)
    by (Some helper) = row_is forms helper object g l h t
