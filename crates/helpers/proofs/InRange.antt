-- Each helper's answer lies in its range.
use Rattle.std.proofs.Common.{◌≡◌, ℕ, ◌+◌, ◌-◌, ◌^◌, ◌<◌, ◌≤◌, ◌⊎◌, inl, inr, List, Option, Some, None, Bool, true, false, refl, subst, arith, length, nat_lt}
use Rattle.std.specs.Prelude.{if◌then◌else◌, ◌==◌, take, drop, min}
use Rattle.std.specs.Option.{option_and_then}
use Rattle.std.specs.FinMap as fin
use Rattle.std.specs.Ordering.{nat_cmp}
use Rattle.std.specs.Cmp.Lexicographic.{slice_cmp}
use Rattle.std.specs.declared.cmp.Ordering.{Ordering}
use Rattle.std.specs.declared.cmp.Ordering.TheVariants.{Less, Equal, Greater}
use Rattle.std.proofs.lemmas.List.{length-take}
use Rattle.shared_map.specs.Entries.{key_above}
use Rattle.object_store.specs.Object.{Attributes, Content, PlainObject}
use Rattle.object_store.specs.Limits.{IsLimits, AreNames, IsAnyObject}
use Rattle.object_store.specs.declared.limits.TheConstants.{NAME_LIMIT}
use Rattle.helpers.specs.declared.helper.Helper.{Helper}
use Rattle.helpers.specs.declared.helper.Helper.TheVariants.{Stat, Read, Write, Truncate, Remove, GetXattr, SetXattr, RmXattr, MapGet, MapSet, MapRm, MapNext, OutLen, Create, Caller, Compare, Copy, XattrNext}
use Rattle.helpers.specs.declared.errno.TheConstants.{ENOENT, EEXIST, EINVAL, EFBIG, ENOSPC, ERANGE, ENODATA}
use Rattle.helpers.specs.declared.answer_ranges.AnswerRange.{AnswerRange}
use Rattle.helpers.specs.Effect.{Given, number, text, Answer, gives, refuses, copies, where_present, Effect, leaves, refused, changes, on_present}
use Rattle.helpers.specs.Table.{copy_answer, found_answer, order_answer, row, effect_of, helper_of, create_effect}
use Rattle.helpers.specs.Ranges.{range_row, limit_of, IsInRange, AnswersAreInRange}
use Rattle.helpers.proofs.Limits.{le_from, key_is}

-- an answer, and what a helper does, with an answer from -errno to a limit
pub record Says (errno limit : ℕ) (a : Answer) : Type 0 where
  pub fits : a.number < 2 ^ 64
  pub side : (a.number ≤ limit) ⊎ (2 ^ 64 - errno ≤ a.number)

pub record Does (errno limit : ℕ) (x : Effect) : Type 0 where
  pub fits : x.answer < 2 ^ 64
  pub side : (x.answer ≤ limit) ⊎ (2 ^ 64 - errno ≤ x.answer)

does : (errno limit : ℕ) (object : PlainObject) (a : Answer) → Says errno limit a → Does errno limit (leaves object a)
does errno limit object a h = record { fits = h.fits; side = h.side }

-- a number up to the limit, and a refusal by an error number that the range has
gives_low : (errno limit n : ℕ) → n ≤ limit → n < 2 ^ 64 → Says errno limit (gives n)
gives_low errno limit n h f = record { fits = f; side = inl h }

copies_low : (errno limit : ℕ) (bytes : List ℕ) → length bytes ≤ limit → length bytes < 2 ^ 64 → Says errno limit (copies bytes)
copies_low errno limit bytes h f = record { fits = f; side = inl h }

changes_low : (errno limit : ℕ) (object : PlainObject) (n : ℕ) → n ≤ limit → n < 2 ^ 64 → Does errno limit (changes object n)
changes_low errno limit object n h f = record { fits = f; side = inl h }

refuses_in : (errno limit e : ℕ) → 1 ≤ e → e ≤ errno → Says errno limit (refuses e)
refuses_in errno limit e h k = record { fits = omega arith; side = inr (omega arith) }

answer_if : (errno limit e : ℕ) (b : Bool) (a : Answer) → 1 ≤ e → e ≤ errno → (b ≡ false → Says errno limit a) → Says errno limit (if b then refuses e else a)
answer_if errno limit e true a h k next = refuses_in errno limit e h k
answer_if errno limit e false a h k next = next refl

answer_present : (errno limit : ℕ) (object : PlainObject) (answer : Content → Answer) → ENOENT ≤ errno → ((o : Content) → object ≡ Some o → Says errno limit (answer o)) → Says errno limit (where_present object answer)
answer_present errno limit None answer k next = refuses_in errno limit ENOENT (omega arith) k
answer_present errno limit (Some o) answer k next = next o refl

effect_if : (errno limit e : ℕ) (object : PlainObject) (b : Bool) (x : Effect) → 1 ≤ e → e ≤ errno → (b ≡ false → Does errno limit x) → Does errno limit (if b then refused e object else x)
effect_if errno limit e object true x h k next = does errno limit object _ (refuses_in errno limit e h k)
effect_if errno limit e object false x h k next = next refl

effect_present : (errno limit : ℕ) (object : PlainObject) (effect : Content → Effect) → ENOENT ≤ errno → ((o : Content) → Does errno limit (effect o)) → Does errno limit (on_present object effect)
effect_present errno limit None effect k next = does errno limit None _ (refuses_in errno limit ENOENT (omega arith) k)
effect_present errno limit (Some o) effect k next = next o

-- a change that answers 0
done : (errno : ℕ) (object : PlainObject) → Does errno 0 (changes object 0)
done errno object = changes_low errno 0 object 0 (omega arith) (omega arith)

-- what is copied is counted
copy_is : (errno limit room : ℕ) (bytes : List ℕ) → ERANGE ≤ errno → (length bytes ≤ room → length bytes ≤ limit) → room < 2 ^ 64 → Says errno limit (copy_answer bytes room)
copy_is errno limit room bytes k within small =
    answer_if errno limit ERANGE (nat_lt room (length bytes)) _ (omega arith) k (λ e.
    let short : length bytes ≤ room = le_from room (length bytes) e in
    copies_low errno limit bytes (within short) (omega arith))

found_is : (errno limit room : ℕ) (o : Option (List ℕ)) → ENODATA ≤ errno → ((v : List ℕ) → o ≡ Some v → Says errno limit (copy_answer v room)) → Says errno limit (found_answer o room)
found_is errno limit room None k next = refuses_in errno limit ENODATA (omega arith) k
found_is errno limit room (Some v) k next = next v refl

value_is : (room : ℕ) (object : PlainObject) (names : Content → Attributes) (name : List ℕ) → room < 2 ^ 64 → Says ENODATA room (where_present object (λ o. found_answer (fin.get (names o) name) room))
value_is room object names name small =
    answer_present ENODATA room object _ (omega arith) (λ o _.
    found_is ENODATA room room _ (omega arith) (λ v _. copy_is ENODATA room room v (omega arith) (λ short. short) small))

-- a name that is found is as short as names are
next_is : (room : ℕ) (m : Attributes) (name : List ℕ) → AreNames m → room < 2 ^ 64 → Says ENODATA (min room NAME_LIMIT) (found_answer (key_above m name) room)
next_is room m name w small =
    found_is ENODATA _ room _ (omega arith) (λ v e.
    let named : length v ≤ NAME_LIMIT = (key_is m name v w e).1 in
    copy_is ENODATA (min room NAME_LIMIT) room v (omega arith) (λ short. omega arith) small)

order_is : (o : Ordering) → Says 1 1 (order_answer o)
order_is Less = record { fits = omega arith; side = inr (omega arith) }
order_is Equal = gives_low 1 1 0 (omega arith) (omega arith)
order_is Greater = gives_low 1 1 1 (omega arith) (omega arith)

created : (object : PlainObject) (exclusive : ℕ) → Does EEXIST 0 (create_effect object exclusive)
created None exclusive = done EEXIST _
created (Some o) exclusive = by (exclusive == 0)
  where
    by : (b : Bool) → Does EEXIST 0 (if b then changes (Some o) 0 else refused EEXIST (Some o))
    by true = done EEXIST _
    by false = does EEXIST 0 (Some o) _ (refuses_in EEXIST 0 EEXIST (omega arith) (omega arith))

set_is : (object : PlainObject) (a b c : Bool) (new : PlainObject) → Does ENOSPC 0 (if a then refused EINVAL object else if b then refused EFBIG object else if c then refused ENOSPC object else changes new 0)
set_is object a b c new =
    effect_if ENOSPC 0 EINVAL object a _ (omega arith) (omega arith) (λ _.
    effect_if ENOSPC 0 EFBIG object b _ (omega arith) (omega arith) (λ _.
    effect_if ENOSPC 0 ENOSPC object c _ (omega arith) (omega arith) (λ _. done ENOSPC new)))

removed : (object : PlainObject) (a : Bool) (b : Content → Bool) (new : Content → PlainObject) → Does ENODATA 0 (if a then refused EINVAL object else on_present object (λ o. if b o then refused ENODATA (Some o) else changes (new o) 0))
removed object a b new =
    effect_if ENODATA 0 EINVAL object a _ (omega arith) (omega arith) (λ _.
    effect_present ENODATA 0 object _ (omega arith) (λ o.
    effect_if ENODATA 0 ENODATA (Some o) (b o) _ (omega arith) (omega arith) (λ _. done ENODATA (new o))))

-- the range of a row
pub record IsIn (g : Given) (r : AnswerRange) (x : Effect) : Type 0 where
  pub is : IsInRange g r x.answer

range_is : (g : Given) (p r : AnswerRange) (x : Effect) → ◌≡◌ {A = Option AnswerRange} (Some p) (Some r) → Does p.errno (limit_of g p.most) x → IsIn g r x
range_is g p r x e h =
    let same : p ≡ r = cc in
    record { is = subst (λ q. IsInRange g q x.answer) same (record { fits = h.fits; side = h.side }) }

row_is : (helper : Helper) (r : AnswerRange) (object : PlainObject) (g : Given) → range_row helper ≡ Some r → IsLimits g.limits → IsAnyObject object → g.room < 2 ^ 64 → IsIn g r ((row helper).effect object g)
row_is Stat r object g e l h small = absurd (cc)
row_is Read r object g e l h small =
    range_is g _ r _ e (does ENOENT g.room object _ (answer_present ENOENT g.room object _ (omega arith) (λ o _.
    let short : length (take g.room (drop (number g 0) o.bytes)) ≤ g.room = omega (arith, length-take g.room (drop (number g 0) o.bytes)) in
    copies_low ENOENT g.room _ short (omega arith))))
row_is Write r object g e l h small =
    range_is g _ r _ e (effect_if EFBIG _ EFBIG object (nat_lt g.limits.bytes (number g 0 + length (text g 0))) _ (omega arith) (omega arith) (λ f.
    let short : number g 0 + length (text g 0) ≤ g.limits.bytes = le_from g.limits.bytes _ f in
    let most = l.bytes in
    changes_low EFBIG (length (text g 0)) _ (length (text g 0)) (omega arith) (omega arith)))
row_is Truncate r object g e l h small =
    range_is g _ r _ e (effect_if EFBIG 0 EFBIG object _ _ (omega arith) (omega arith) (λ _. effect_present EFBIG 0 object _ (omega arith) (λ o. done EFBIG _)))
row_is Remove r object g e l h small = range_is g _ r _ e (effect_present ENOENT 0 object _ (omega arith) (λ o. done ENOENT _))
row_is GetXattr r object g e l h small =
    range_is g _ r _ e (does ENODATA g.room object _ (answer_if ENODATA g.room EINVAL _ _ (omega arith) (omega arith) (λ _. value_is g.room object (λ o. o.xattrs) (text g 0) small)))
row_is SetXattr r object g e l h small = range_is g _ r _ e (set_is object _ _ _ _)
row_is RmXattr r object g e l h small = range_is g _ r _ e (removed object _ _ _)
row_is MapGet r object g e l h small =
    range_is g _ r _ e (does ENODATA g.room object _ (answer_if ENODATA g.room EINVAL _ _ (omega arith) (omega arith) (λ _. value_is g.room object (λ o. o.omap) (text g 0) small)))
row_is MapSet r object g e l h small = range_is g _ r _ e (set_is object _ _ _ _)
row_is MapRm r object g e l h small = range_is g _ r _ e (removed object _ _ _)
row_is MapNext r object g e l h small =
    range_is g _ r _ e (does ENODATA _ object _ (answer_if ENODATA _ EINVAL _ _ (omega arith) (omega arith) (λ _. answer_present ENODATA _ object _ (omega arith) (λ o s.
    next_is g.room o.omap (text g 0) (subst IsAnyObject s h).omap small))))
row_is OutLen r object g e l h small = range_is g _ r _ e (record { fits = omega arith; side = inl (omega arith) })
row_is Create r object g e l h small = range_is g _ r _ e (created object (number g 0))
row_is Caller r object g e l h small = absurd (cc)
row_is Compare r object g e l h small = range_is g _ r _ e (does 1 1 object _ (order_is (slice_cmp nat_cmp (text g 0) (text g 1))))
row_is Copy r object g e l h small =
    range_is g _ r _ e (does ERANGE _ object _ (copy_is ERANGE (length (text g 0)) g.room (text g 0) (omega arith) (λ _. omega arith) small))
row_is XattrNext r object g e l h small =
    range_is g _ r _ e (does ENODATA _ object _ (answer_if ENODATA _ EINVAL _ _ (omega arith) (omega arith) (λ _. answer_present ENODATA _ object _ (omega arith) (λ o s.
    next_is g.room o.xattrs (text g 0) (subst IsAnyObject s h).xattrs small))))

pub answers_are : AnswersAreInRange
answers_are id r object g e l h small = by (helper_of id) e
  where
    by : (o : Option Helper) → option_and_then range_row o ≡ Some r → IsInRange g r (effect_of o object g).answer
    by None f = absurd (cc)
    by (Some helper) f = (row_is helper r object g f l h small).is
