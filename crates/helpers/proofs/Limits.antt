-- What each helper does stays within the limits.
use Rattle.std.proofs.Common.{◌≡◌, ℕ, zero, suc, ◌+◌, ◌≤◌, List, [], ◌∷◌, Option, Some, None, Result, Ok, Err, Bool, true, false, cond, not, ◌&&◌, is_some, refl, ap, sym, subst, ◌∙◌, arith, length, nat_lt}
use Rattle.std.specs.Prelude.{if◌then◌else◌, ◌==◌, slice_get, unwrap_or, drop}
use Rattle.std.specs.List.{AllByRecursion}
use Rattle.std.specs.Ordering.{nat_cmp, is_lt, eq_by_cmp}
use Rattle.std.specs.declared.cmp.Ordering.{Ordering}
use Rattle.std.specs.declared.cmp.Ordering.TheVariants.{Less, Equal, Greater}
use Rattle.std.specs.Cmp.Lexicographic.{slice_cmp}
use Rattle.std.specs.FinMap as fin
use Rattle.std.specs.FinMap.{find}
use Rattle.std.proofs.lemmas.List.{length-take}
use Rattle.std.proofs.lemmas.Bool.{ltb-false}
use Rattle.std.proofs.lemmas.Cmp.{nat_list_cmp_total, eq_by_cmp_equiv}
use Rattle.shared_map.specs.Entries.{Entries, least_above, key_above}
use Rattle.object_store.specs.Object.{Attributes, Content, PlainObject, AreBytes, IsName, IsContent, IsObject, nothing, content_of, part, spliced, resized}
use Rattle.object_store.specs.declared.limits.TheConstants.{DATA_LIMIT, VALUE_LIMIT, XATTR_LIMIT, KEY_LIMIT}
use Rattle.object_store.specs.declared.store_error.StoreError.{StoreError}
use Rattle.object_store.specs.declared.store_error.StoreError.TheVariants.{TooBig, TooMany, Range, NoAttr}
use Rattle.object_store.specs.Calls as calls
use Rattle.object_store.specs.Limits.{profile, AreNames}
use Rattle.object_store.specs.Laws.{Keeps, Reads}
use Rattle.helpers.specs.declared.helper.Helper.{Helper}
use Rattle.helpers.specs.declared.helper.Helper.TheVariants.{Stat, Read, Write, Truncate, Remove, GetXattr, SetXattr, RmXattr, MapGet, MapSet, MapRm, MapNext, OutLen, Create, Caller, Compare, Copy, XattrNext}
use Rattle.helpers.specs.declared.errno.TheConstants.{EEXIST, EINVAL, EFBIG, ENOSPC, ERANGE, ENODATA}
use Rattle.helpers.specs.Effect.{Given, number, text, Answer, refuses, copies, where_present, Effect, leaves, refused, changes, on_present, is_full}
use Rattle.helpers.specs.Table.{found_answer, copy_answer, order_answer, row, effect_of, helper_of, write_effect, truncate_effect, setxattr_effect, rmxattr_effect, map_set_effect, map_rm_effect, create_effect, read_answer}
use Rattle.helpers.specs.Laws.{IsWithinLimits, EffectsAreWithinLimits}

-- ---- what is copied
pub record IsCopied (room : ℕ) (a : Answer) : Type 0 where
  pub bytes : AreBytes a.bytes
  pub short : length a.bytes ≤ room

pub none_copied : (room n : ℕ) → IsCopied room (record { number = n; bytes = [] })
none_copied room n = record { bytes = tt; short = omega arith }

pub copied_if : (room errno : ℕ) (b : Bool) (a : Answer) → (b ≡ false → IsCopied room a) → IsCopied room (if b then refuses errno else a)
copied_if room errno true a h = none_copied room _
copied_if room errno false a h = h refl

pub copied_present : (room : ℕ) (object : PlainObject) (answer : Content → Answer) → ((o : Content) → object ≡ Some o → IsCopied room (answer o)) → IsCopied room (where_present object answer)
copied_present room None answer h = none_copied room _
copied_present room (Some o) answer h = h o refl

pub le_from : (a b : ℕ) → nat_lt a b ≡ false → b ≤ a
le_from a b e = ltb-false a b e

pub copy_copied : (room : ℕ) (v : List ℕ) → AreBytes v → IsCopied room (copy_answer v room)
copy_copied room v h = by (nat_lt room (length v)) refl
  where
    by : (b : Bool) → nat_lt room (length v) ≡ b → IsCopied room (if b then refuses ERANGE else copies v)
    by true e = none_copied room _
    by false e = record { bytes = h; short = le_from room (length v) e }

found_copied : (room : ℕ) (o : Option (List ℕ)) → ((v : List ℕ) → o ≡ Some v → AreBytes v) → IsCopied room (found_answer o room)
found_copied room None h = none_copied room _
found_copied room (Some v) h = copy_copied room v (h v refl)

pub order_copied : (room : ℕ) (o : Ordering) → IsCopied room (order_answer o)
order_copied room Less = none_copied room _
order_copied room Equal = none_copied room _
order_copied room Greater = none_copied room _

pub value_copied : (room : ℕ) (m : Attributes) (name : List ℕ) → AreNames m → IsCopied room (found_answer (fin.get m name) room)
value_copied room m name w = found_copied room (fin.get m name) (λ v e. (w name v e).1.1)

-- the key above some bytes is a key
same_some : (x y : List ℕ) → ◌≡◌ {A = Option (List ℕ)} (Some x) (Some y) → x ≡ y
same_some x y e = cc

found_at : (x k : List ℕ) (v : List ℕ) (es : Entries (List ℕ)) → k ≡ x → (w : List ℕ) × (find (slice_cmp nat_cmp) x ((k, v) ∷ es) ≡ Some w)
found_at x k v es e =
    (v, ap (λ b. cond b (Some v) (find (slice_cmp nat_cmp) x es)) (subst (λ q. eq_by_cmp (slice_cmp nat_cmp) q k ≡ true) e ((eq_by_cmp_equiv nat_list_cmp_total).refl k)))

found_later : (x : List ℕ) (e : List ℕ × List ℕ) (es : Entries (List ℕ)) → (w : List ℕ) × (find (slice_cmp nat_cmp) x es ≡ Some w) → (w : List ℕ) × (find (slice_cmp nat_cmp) x (e ∷ es) ≡ Some w)
found_later x e es f = by (eq_by_cmp (slice_cmp nat_cmp) x e.0) refl
  where
    by : (b : Bool) → eq_by_cmp (slice_cmp nat_cmp) x e.0 ≡ b → (w : List ℕ) × (cond (eq_by_cmp (slice_cmp nat_cmp) x e.0) (Some e.1) (find (slice_cmp nat_cmp) x es) ≡ Some w)
    by true q = (e.1, ap (λ b. cond b (Some e.1) (find (slice_cmp nat_cmp) x es)) q)
    by false q = (f.0, ap (λ b. cond b (Some e.1) (find (slice_cmp nat_cmp) x es)) q ∙ f.1)

above_found : (k x : List ℕ) (es : Entries (List ℕ)) → least_above k es ≡ Some x → (w : List ℕ) × (find (slice_cmp nat_cmp) x es ≡ Some w)
above_found k x [] e = absurd (cc)
above_found k x (p ∷ es) e = by (is_lt (slice_cmp nat_cmp k p.0)) (λ f. above_found k x es f) e
  where
    by : (b : Bool) → (least_above k es ≡ Some x → (w : List ℕ) × (find (slice_cmp nat_cmp) x es ≡ Some w)) → cond b (Some p.0) (least_above k es) ≡ Some x → (w : List ℕ) × (find (slice_cmp nat_cmp) x (p ∷ es) ≡ Some w)
    by true later f = found_at x p.0 p.1 es (same_some p.0 x f)
    by false later f = found_later x p es (later f)

pub key_is : (m : Attributes) (key x : List ℕ) → AreNames m → key_above m key ≡ Some x → IsName x
key_is m key x w e = let f = above_found key x (fin.entries m) e in (w x f.0 (fin.get-entries m x ∙ f.1)).0

pub key_copied : (room : ℕ) (m : Attributes) (key : List ℕ) → AreNames m → IsCopied room (found_answer (key_above m key) room)
key_copied room m key w =
    found_copied room (key_above m key) (λ x e. (key_is m key x w e).2)

-- ---- effects
left : (room : ℕ) (object : PlainObject) (a : Answer) → IsObject object → IsCopied room a → IsWithinLimits room (leaves object a)
left room object a h k = record { object = h; bytes = k.bytes; short = k.short }

no_bytes : (room : ℕ) (object : PlainObject) (n : ℕ) → IsObject object → IsWithinLimits room (changes object n)
no_bytes room object n h = record { object = h; bytes = tt; short = omega arith }

effect_if : (room errno : ℕ) (object : PlainObject) (b : Bool) (e : Effect) → IsObject object → (b ≡ false → IsWithinLimits room e) → IsWithinLimits room (if b then refused errno object else e)
effect_if room errno object true e h k = left room object (refuses errno) h (none_copied room _)
effect_if room errno object false e h k = k refl

effect_present : (room : ℕ) (object : PlainObject) (effect : Content → Effect) → ((o : Content) → object ≡ Some o → IsWithinLimits room (effect o)) → IsWithinLimits room (on_present object effect)
effect_present room None effect h = left room None _ tt (none_copied room _)
effect_present room (Some o) effect h = h o refl

pub not_not : (b : Bool) → not b ≡ false → b ≡ true
not_not true e = refl
not_not false e = absurd (cc)

-- what is set where there is a place for it
pub set_in_is : (limit : ℕ) (m : Attributes) (name value : List ℕ) → is_full (Some limit) m name ≡ false → calls.set_in limit m name value ≡ Ok (fin.insert m name value)
set_in_is limit m name value e = by (is_some (fin.get m name)) (nat_lt (fin.len m) limit) refl refl e
  where
    by : (a b : Bool) → is_some (fin.get m name) ≡ a → nat_lt (fin.len m) limit ≡ b → (not a && not b) ≡ false → (if is_some (fin.get m name) then Ok (fin.insert m name value) else if nat_lt (fin.len m) limit then Ok (fin.insert m name value) else Err TooMany) ≡ Ok (fin.insert m name value)
    by true b p q f = ap (λ c. if c then Ok (fin.insert m name value) else if nat_lt (fin.len m) limit then Ok (fin.insert m name value) else Err TooMany) p
    by false true p q f =
        ap (λ c. if c then Ok (fin.insert m name value) else if nat_lt (fin.len m) limit then Ok (fin.insert m name value) else Err TooMany) p
        ∙ ap (λ c. if c then Ok (fin.insert m name value) else Err TooMany) q
    by false false p q f = absurd (cc)

-- a change that passes two tests
pub two_tests : (a b : Bool) (r : Result Content StoreError) → a ≡ true → b ≡ false → (if a then if b then Err TooBig else r else Err Range) ≡ r
two_tests a b r p q = ap (λ x. if x then if b then Err TooBig else r else Err Range) p ∙ ap (λ x. if x then Err TooBig else r) q

pub record Laws : Type 0 where
  pub write : (at : ℕ) (text : List ℕ) → AreBytes text → Keeps (λ o. calls.write o at text)
  pub truncate : (len : ℕ) → Keeps (λ o. calls.truncate o len)
  pub set_xattr : (name value : List ℕ) → AreBytes name → AreBytes value → Keeps (λ o. calls.set_xattr o name value)
  pub set_key : (key value : List ℕ) → AreBytes key → AreBytes value → Keeps (λ o. calls.set_key o key value)
  pub remove_xattr : (name : List ℕ) → Keeps (λ o. calls.remove_xattr o name)
  pub remove_key : (key : List ℕ) → Keeps (λ o. calls.remove_key o key)
  pub create : (exclusive : Bool) → Keeps (λ o. calls.create o exclusive)
  pub read : (at n : ℕ) → Reads (λ o. calls.read o at n) AreBytes

module _ (laws : Laws) (room : ℕ) where
  write_is : (object : PlainObject) (at : ℕ) (bytes : List ℕ) → IsObject object → AreBytes bytes → IsWithinLimits room (write_effect profile object at bytes)
  write_is object at bytes h k =
      effect_if room EFBIG object (nat_lt DATA_LIMIT (at + length bytes)) _ h (λ e.
      let c : Content = record (content_of object) { bytes = spliced (content_of object).bytes at bytes } in
      no_bytes room (Some c) (length bytes) (laws.write at bytes k object c h (ap (λ b. if b then Err TooBig else Ok c) e)))

  truncate_is : (object : PlainObject) (size : ℕ) → IsObject object → IsWithinLimits room (truncate_effect profile object size)
  truncate_is object size h =
      effect_if room EFBIG object (nat_lt DATA_LIMIT size) _ h (λ e.
      effect_present room object _ (λ o s.
      let c : Content = record o { bytes = resized o.bytes size } in
      no_bytes room (Some c) 0 (laws.truncate size (Some o) c (subst IsObject s h) (ap (λ b. if b then Err TooBig else Ok c) e))))

  setxattr_is : (object : PlainObject) (name value : List ℕ) → IsObject object → AreBytes name → AreBytes value → IsWithinLimits room (setxattr_effect profile object name value)
  setxattr_is object name value h n v =
      effect_if room EINVAL object (not (calls.is_named name)) _ h (λ e.
      effect_if room EFBIG object (nat_lt VALUE_LIMIT (length value)) _ h (λ s.
      effect_if room ENOSPC object (is_full (Some XATTR_LIMIT) (content_of object).xattrs name) _ h (λ f.
      let c : Content = record (content_of object) { xattrs = fin.insert (content_of object).xattrs name value } in
      no_bytes room (Some c) 0 (laws.set_xattr name value n v object c h
      (two_tests (calls.is_named name) (nat_lt VALUE_LIMIT (length value)) _ (not_not _ e) s
      ∙ ap (calls.with_xattrs (content_of object)) (set_in_is XATTR_LIMIT (content_of object).xattrs name value f))))))

  map_set_is : (object : PlainObject) (key value : List ℕ) → IsObject object → AreBytes key → AreBytes value → IsWithinLimits room (map_set_effect profile object key value)
  map_set_is object key value h n v =
      effect_if room EINVAL object (not (calls.is_named key)) _ h (λ e.
      effect_if room EFBIG object (nat_lt VALUE_LIMIT (length value)) _ h (λ s.
      effect_if room ENOSPC object (is_full (Some KEY_LIMIT) (content_of object).omap key) _ h (λ f.
      let c : Content = record (content_of object) { omap = fin.insert (content_of object).omap key value } in
      no_bytes room (Some c) 0 (laws.set_key key value n v object c h
      (two_tests (calls.is_named key) (nat_lt VALUE_LIMIT (length value)) _ (not_not _ e) s
      ∙ ap (calls.with_omap (content_of object)) (set_in_is KEY_LIMIT (content_of object).omap key value f))))))

  rmxattr_is : (object : PlainObject) (name : List ℕ) → IsObject object → IsWithinLimits room (rmxattr_effect profile object name)
  rmxattr_is object name h =
      effect_if room EINVAL object (not (calls.is_named name)) _ h (λ e.
      effect_present room object _ (λ o s.
      let k : IsContent o = subst IsObject s h in
      effect_if room ENODATA (Some o) (not (fin.contains_key o.xattrs name)) _ k (λ f.
      let c : Content = record o { xattrs = fin.remove o.xattrs name } in
      no_bytes room (Some c) 0 (laws.remove_xattr name (Some o) c k
      (ap (λ b. if b then calls.with_xattrs o (calls.removed_in o.xattrs name) else Err Range) (not_not _ e)
      ∙ ap (λ b. calls.with_xattrs o (if b then Ok (fin.remove o.xattrs name) else Err NoAttr)) (not_not _ f))))))

  map_rm_is : (object : PlainObject) (key : List ℕ) → IsObject object → IsWithinLimits room (map_rm_effect profile object key)
  map_rm_is object key h =
      effect_if room EINVAL object (not (calls.is_named key)) _ h (λ e.
      effect_present room object _ (λ o s.
      let k : IsContent o = subst IsObject s h in
      effect_if room ENODATA (Some o) (not (fin.contains_key o.omap key)) _ k (λ f.
      let c : Content = record o { omap = fin.remove o.omap key } in
      no_bytes room (Some c) 0 (laws.remove_key key (Some o) c k
      (ap (λ b. if b then calls.with_omap o (calls.removed_in o.omap key) else Err Range) (not_not _ e)
      ∙ ap (λ b. calls.with_omap o (if b then Ok (fin.remove o.omap key) else Err NoAttr)) (not_not _ f))))))

  create_is : (object : PlainObject) (exclusive : ℕ) → IsObject object → IsWithinLimits room (create_effect object exclusive)
  create_is None exclusive h = no_bytes room (Some nothing) 0 (laws.create true None nothing tt refl)
  create_is (Some o) exclusive h = by (exclusive == 0)
    where
      by : (b : Bool) → IsWithinLimits room (if b then changes (Some o) 0 else refused EEXIST (Some o))
      by true = no_bytes room (Some o) 0 h
      by false = left room (Some o) _ h (none_copied room _)

  read_is : (object : PlainObject) (at : ℕ) → IsObject object → IsCopied room (read_answer object at room)
  read_is object at h =
      copied_present room object _ (λ o s. record {
        bytes = laws.read at room (Some o) (part o.bytes at room) (subst IsObject s h) refl;
        short = omega (arith, length-take room (drop at o.bytes));
      })

pub text_is : (texts : List (List ℕ)) (k : ℕ) → AllByRecursion AreBytes texts → AreBytes (unwrap_or (slice_get texts k) [])
text_is [] k h = tt
text_is (t ∷ texts) zero h = h.0
text_is (t ∷ texts) (suc k) h = text_is texts k h.1

-- by the limits of all objects
abbrev pub at_profile : Given → Given
at_profile g = record g { limits = profile }

pub profile_is : (g : Given) → g.limits ≡ profile → at_profile g ≡ g
profile_is g e = ap (λ l. record g { limits = l }) (sym e)

row_is : Laws → (helper : Helper) (object : PlainObject) (g : Given) → IsObject object → AllByRecursion AreBytes g.texts → IsWithinLimits g.room ((row helper).effect object (at_profile g))
row_is laws Stat object g h t = left g.room object _ h (copied_present g.room object _ (λ o s. none_copied g.room _))
row_is laws Read object g h t = left g.room object _ h (read_is laws g.room object (number g 0) h)
row_is laws Write object g h t = write_is laws g.room object (number g 0) (text g 0) h (text_is g.texts 0 t)
row_is laws Truncate object g h t = truncate_is laws g.room object (number g 0) h
row_is laws Remove object g h t = effect_present g.room object _ (λ o s. no_bytes g.room None 0 tt)
row_is laws GetXattr object g h t =
    left g.room object _ h (copied_if g.room EINVAL _ _ (λ _. copied_present g.room object _ (λ o s. value_copied g.room o.xattrs (text g 0) (subst IsObject s h).xattrs.each)))
row_is laws SetXattr object g h t = setxattr_is laws g.room object (text g 0) (text g 1) h (text_is g.texts 0 t) (text_is g.texts 1 t)
row_is laws RmXattr object g h t = rmxattr_is laws g.room object (text g 0) h
row_is laws MapGet object g h t =
    left g.room object _ h (copied_if g.room EINVAL _ _ (λ _. copied_present g.room object _ (λ o s. value_copied g.room o.omap (text g 0) (subst IsObject s h).omap.each)))
row_is laws MapSet object g h t = map_set_is laws g.room object (text g 0) (text g 1) h (text_is g.texts 0 t) (text_is g.texts 1 t)
row_is laws MapRm object g h t = map_rm_is laws g.room object (text g 0) h
row_is laws MapNext object g h t =
    left g.room object _ h (copied_if g.room EINVAL _ _ (λ _. copied_present g.room object _ (λ o s. key_copied g.room o.omap (text g 0) (subst IsObject s h).omap.each)))
row_is laws OutLen object g h t = record { object = h; bytes = tt; short = omega arith }
row_is laws Create object g h t = create_is laws g.room object (number g 0) h
row_is laws Caller object g h t = left g.room object _ h (none_copied g.room _)
row_is laws Compare object g h t = left g.room object _ h (order_copied g.room _)
row_is laws Copy object g h t = left g.room object _ h (copy_copied g.room (text g 0) (text_is g.texts 0 t))
row_is laws XattrNext object g h t =
    left g.room object _ h (copied_if g.room EINVAL _ _ (λ _. copied_present g.room object _ (λ o s. key_copied g.room o.xattrs (text g 0) (subst IsObject s h).xattrs.each)))

pub effects_are : Laws → EffectsAreWithinLimits
effects_are laws id object g p h t = subst (λ q. IsWithinLimits g.room (effect_of (helper_of id) object q)) (profile_is g p) (by (helper_of id))
  where
    by : (o : Option Helper) → IsWithinLimits g.room (effect_of o object (at_profile g))
    by None = left g.room object _ h (none_copied g.room _)
    by (Some helper) = row_is laws helper object g h t
