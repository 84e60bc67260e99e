-- A walk that ends well shows that names agree with what is known of them.
use Rattle.std.proofs.Common.{◌≡◌, ◌∙◌, ℕ, suc, ◌⊎◌, inl, inr, Bool, true, false, cond, List, [], ◌∷◌, Option, Some, None, refl, ap, sym, subst, arith, length, drop, zero, ◌≤◌, ◌+◌, ◌-◌, ◌*◌, add-one, length-drop, take}
use Rattle.std.specs.Prelude.{◌&&◌, ◌==◌, not, if◌then◌else◌, slice_get, T}
use Rattle.std.specs.Ordering.{nat_cmp, is_lt, is_eq, eq_by_cmp, ordering_reverse}
use Rattle.std.specs.List.{AllByRecursion}
use Rattle.std.specs.Cmp.{tied_itself}
use Rattle.std.specs.Cmp.Lexicographic.{slice_cmp}
use Rattle.std.specs.Str.{bytes_eq}
use Rattle.std.specs.declared.cmp.Ordering.{Ordering}
use Rattle.std.specs.declared.cmp.Ordering.TheVariants.{Less, Equal, Greater}
use Rattle.std.proofs.lemmas.Bool.{eqb-true}
use Rattle.std.proofs.lemmas.List.{drop-drop, drop_all, take_all}
use Rattle.std.proofs.lemmas.Cmp.{nat_list_cmp_total}
use Rattle.std.proofs.lemmas.Map.Lookups.{exact_bytes}
use Rattle.std.proofs.lemmas.Option.{none-some, same_Some}
use Rattle.std.proofs.lemmas.Slice.Eq.{bytes_eq-Decides}
use Rattle.std.specs.FinMap as fin
use Rattle.std.specs.FinMap.{find, is_sorted}
use Rattle.std.specs.FinMap.Entries.{below_all}
use Rattle.object_store.specs.Object.{Attributes}
use Rattle.object_store.specs.Object as object
use Rattle.part_bytes.specs.Part.{Interval, Entry, IsBelow, IsInterval, after_interval, AreInTurn, AreIntervals, IsHeld}
use Rattle.part_bytes.specs.Part as part
use Rattle.part_bytes.specs.inner.Reading.{is_end_of, past, is_begun}
use Rattle.part_bytes.proofs.Held.{both_true, end_so}
use Rattle.parts.specs.Agreed.{AgreeNames, HasNoEntry}
use Rattle.large_objects.specs.inner.Walk.{IsAfter, is_entry, is_next, walked}

abbrev R : List ℕ → List ℕ → Ordering
R x y = slice_cmp nat_cmp x y

abbrev ties : List ℕ → List ℕ → Bool
ties q k = eq_by_cmp R q k

tied : (r : Ordering) → is_eq r ≡ true → r ≡ Equal
tied Less p = absurd (cc)
tied Equal p = refl
tied Greater p = absurd (cc)

-- only equal names tie
tied_key : (q k : List ℕ) → ties q k ≡ true → q ≡ k
tied_key q k e = exact_bytes q k (tied _ e)

first : (a b : Bool) → T (a && b) → T a
first true b p = tt
first false b p = p

second : (a b : Bool) → T (a && b) → T b
second true b p = p
second false b p = absurd p

less : (o : Ordering) → T (is_lt o) → o ≡ Less
less Less p = refl
less Equal p = absurd p
less Greater p = absurd p

below_trans : (a b c : List ℕ) → IsBelow a b → IsBelow b c → IsBelow a c
below_trans a b c p q = nat_list_cmp_total.trans a b c p q

-- ---- names in order

-- a name that is below all isn't among them
none_above : (q : List ℕ) (es : List Entry) → ((k : List ℕ) → T (below_all R k es) → (q ≡ k) ⊎ IsBelow q k → find R q es ≡ None)
none_above q [] k h below = refl
none_above q (e ∷ es) k h below =
    let under : IsBelow k e.0 = less _ (first _ _ h) in
    let lower : IsBelow q e.0 = elim below [ inl same ↦ subst (λ (x : List ℕ). IsBelow x e.0) (sym same) under | inr low ↦ below_trans q k e.0 low under ] in
    ap (λ (r : Ordering). cond (is_eq r) (Some e.1) (find R q es)) lower ∙ none_above q es k (second _ _ h) below

-- a name is at another, below it or above it
order : (r : Ordering) → (r ≡ Equal) ⊎ ((r ≡ Less) ⊎ (r ≡ Greater))
order Less = inr (inl refl)
order Equal = inl refl
order Greater = inr (inr refl)

above_so : (q k : List ℕ) → R q k ≡ Greater → IsBelow k q
above_so q k e = nat_list_cmp_total.antisymm k q ∙ ap ordering_reverse e

-- what is found among the later ones is found among all
later_found : (e : Entry) (more : List Entry) (k v : List ℕ) → T (is_sorted R (e ∷ more)) → find R k more ≡ Some v → find R k (e ∷ more) ≡ Some v
later_found e more k v s h = by (ties k e.0) refl
  where
    by : (b : Bool) → ties k e.0 ≡ b → cond b (Some e.1) (find R k more) ≡ Some v
    by true t = let none = none_above k more e.0 (first _ _ s) (inl (tied_key k e.0 t)) in absurd cc
    by false t = h

itself : (e : Entry) (more : List Entry) → find R e.0 (e ∷ more) ≡ Some e.1
itself e more = ap (λ (r : Ordering). cond (is_eq r) (Some e.1) (find R e.0 more)) (tied_itself nat_list_cmp_total e.0)

-- ---- intervals

not_less : (o : Ordering) → ¬ (o ≡ Less) → not (is_lt o) ≡ true
not_less Less h = absurd (h refl)
not_less Equal h = refl
not_less Greater h = refl

ends_none : (q end : List ℕ) (is : List Interval) → AreInTurn IsInterval after_interval (Some end) is → end ≡ [] → IsHeld is q → ⊥
ends_none q end [] a e h = h
ends_none q end (i ∷ is) a e h = let some = a.0.begins.0 in let none = ap length e in omega (arith, some, none)

not_later : (q end : List ℕ) (is : List Interval) → AreInTurn IsInterval after_interval (Some end) is → IsBelow q end → IsHeld is q → ⊥
not_later q end [] a b h = h
not_later q end (i ∷ is) a b h =
    let low : IsBelow q i.0 = below_trans q end i.0 b a.0.begins.1 in
    elim h [
      | inl here ↦ here.from low
      | inr later ↦ elim a.0.rises [
        | inl e ↦ ends_none q i.1 is a.1 e later
        | inr rises ↦ not_later q i.1 is a.1 (below_trans q i.0 i.1 low rises) later
      ]
    ]

loosened : (before : Option (List ℕ)) (is : List Interval) → AreInTurn IsInterval after_interval before is → AreIntervals is
loosened before [] a = tt
loosened before (i ∷ is) a = (record { low = a.0.low; high = a.0.high; rises = a.0.rises; begins = tt }, a.1)

past_intervals : (name : List ℕ) (is : List Interval) → AreIntervals is → AreIntervals (past name is)
unfolding past
past_intervals name [] a = a
past_intervals name (i ∷ is) a = by (past_intervals name is (loosened (Some i.1) is a.1)) (is_end_of name i.1)
  where
    by : AreIntervals (past name is) → (b : Bool) → AreIntervals (if b then i ∷ is else past name is)
    by more true = a
    by more false = more

-- an interval that holds a name is found for it
held_begun : (q : List ℕ) (is : List Interval) → AreIntervals is → IsHeld is q → is_begun q (past q is) ≡ true
unfolding past
held_begun q [] a h = absurd h
held_begun q (i ∷ is) a h = by (held_begun q is (loosened (Some i.1) is a.1)) (is_end_of q i.1) refl
  where
    not_before : IsHeld (i ∷ is) q → ¬ IsBelow q i.0
    not_before (inl here) = here.from
    not_before (inr later) = λ below. elim a.0.rises [
      | inl e ↦ ends_none q i.1 is a.1 e later
      | inr rises ↦ not_later q i.1 is a.1 (below_trans q i.0 i.1 below rises) later
    ]

    by : (IsHeld is q → is_begun q (past q is) ≡ true) → (b : Bool) → is_end_of q i.1 ≡ b → is_begun q (if b then i ∷ is else past q is) ≡ true
    by more true t = not_less (slice_cmp nat_cmp q i.0) (not_before h)
    by more false t = elim h [
      | inl here ↦ (let so = end_so q i.1 here.to in absurd cc)
      | inr later ↦ more later
    ]

-- those that end at a name or below hold no later one
later_held : (name q : List ℕ) (is : List Interval) → IsBelow name q → IsHeld is q → IsHeld (past name is) q
unfolding past
later_held name q [] below h = h
later_held name q (i ∷ is) below h = by (later_held name q is below) (is_end_of name i.1) refl
  where
    to : (i.1 ≡ []) ⊎ IsBelow q i.1 → (i.1 ≡ []) ⊎ IsBelow name i.1
    to (inl e) = inl e
    to (inr h) = inr (below_trans name q i.1 below h)

    by : (IsHeld is q → IsHeld (past name is) q) → (b : Bool) → is_end_of name i.1 ≡ b → IsHeld (if b then i ∷ is else past name is) q
    by more true t = h
    by more false t = elim h [
      | inl here ↦ (let so = end_so name i.1 (to here.to) in absurd cc)
      | inr later ↦ more later
    ]

-- ---- the walk

-- the next entry is this one
record Takes (e : Entry) (es : List Entry) (more : List Entry → Bool) : Type 0 where
  pub rest : List Entry
  pub next : Entry
  pub is : es ≡ next ∷ rest
  pub name : next.0 ≡ e.0
  pub value : next.1 ≡ e.1
  pub goes : more rest ≡ true

bytes_same : (a b : List ℕ) → bytes_eq a b ≡ true → a ≡ b
bytes_same a b e = (bytes_eq-Decides a b).0 e

takes : (e : Entry) (es : List Entry) (more : List Entry → Bool) → is_next e es more ≡ true → Takes e es more
takes e [] more h = absurd cc
takes e (f ∷ fs) more h =
    let both = both_true (is_entry f e) (more fs) h in
    let same = both_true (bytes_eq f.0 e.0) (bytes_eq f.1 e.1) both.0 in
    record { rest = fs; next = f; is = refl; name = bytes_same f.0 e.0 same.0; value = bytes_same f.1 e.1 same.1; goes = both.1 }

-- a name that an interval holds, and that no entry has, isn't there
module _ (q : List ℕ) where
  -- so it is of the later names, with what is left of intervals and entries
  abbrev Later : List Interval → List Entry → Type 0
  Later left more = (es : List Entry) → walked left es more ≡ true → IsHeld left q → HasNoEntry es q → find R q more ≡ None

  after_one : (e : Entry) (es : List Entry) (left : List Interval) (more : List Entry) (b : Bool) → Later left more → IsHeld left q → HasNoEntry es q →
      (if b then is_next e es (λ fs. walked left fs more) else walked left es more) ≡ true → find R q more ≡ None
  after_one e es left more true ih h none t =
      let n = takes e es (λ fs. walked left fs more) t in
      let rest : HasNoEntry (n.next ∷ n.rest) q = subst (λ (l : List Entry). HasNoEntry l q) n.is none in
      ih n.rest n.goes h rest.1
  after_one e es left more false ih h none t = ih es t h none

  at_one : (e : Entry) (es : List Entry) (is : List Interval) (more : List Entry) (b : Bool) → AreIntervals is → q ≡ e.0 → IsHeld is q → HasNoEntry es q → is_begun e.0 (past e.0 is) ≡ b →
      (if b then is_next e es (λ fs. walked (past e.0 is) fs more) else walked (past e.0 is) es more) ≡ true → ⊥
  at_one e es is more true a same h none begun t =
      let n = takes e es (λ fs. walked (past e.0 is) fs more) t in
      let rest : HasNoEntry (n.next ∷ n.rest) q = subst (λ (l : List Entry). HasNoEntry l q) n.is none in
      rest.0 (n.name ∙ sym same)
  at_one e es is more false a same h none begun t = let so = held_begun e.0 is a (subst (IsHeld is) same h) in cc

  absent : (is : List Interval) (es L : List Entry) → AreIntervals is → T (is_sorted R L) → walked is es L ≡ true → IsHeld is q → HasNoEntry es q → find R q L ≡ None
  unfolding walked
  absent is es [] a s w h none = refl
  absent is es (e ∷ more) a s w h none =
      by (λ fs t held no. absent (past e.0 is) fs more (past_intervals e.0 is a) (second _ _ s) t held no) (order (R q e.0)) (is_begun e.0 (past e.0 is)) refl w
    where
      by : Later (past e.0 is) more → (R q e.0 ≡ Equal) ⊎ ((R q e.0 ≡ Less) ⊎ (R q e.0 ≡ Greater)) → (b : Bool) → is_begun e.0 (past e.0 is) ≡ b →
          (if b then is_next e es (λ fs. walked (past e.0 is) fs more) else walked (past e.0 is) es more) ≡ true → cond (ties q e.0) (Some e.1) (find R q more) ≡ None
      by ih (inl equal) b begun t = absurd (at_one e es is more b a (exact_bytes q e.0 equal) h none begun t)
      by ih (inr (inl low)) b begun t = ap (λ (r : Ordering). cond (is_eq r) (Some e.1) (find R q more)) low ∙ none_above q more e.0 (first _ _ s) (inr low)
      by ih (inr (inr high)) b begun t =
          ap (λ (r : Ordering). cond (is_eq r) (Some e.1) (find R q more)) high
          ∙ after_one e es (past e.0 is) more b ih (later_held e.0 q is (above_so q e.0 high) h) none t

-- each entry is a name's value
lifted : (e : Entry) (more es : List Entry) → T (is_sorted R (e ∷ more)) → AllByRecursion (λ (x : Entry). find R x.0 more ≡ Some x.1) es → AllByRecursion (λ (x : Entry). find R x.0 (e ∷ more) ≡ Some x.1) es
lifted e more [] s h = tt
lifted e more (x ∷ es) s h = (later_found e more x.0 x.1 s h.0, lifted e more es s h.1)

is_none : (es : List Entry) → (length es == 0) ≡ true → es ≡ []
is_none [] e = refl
is_none (x ∷ es) e = let none : suc (length es) ≡ 0 = eqb-true (suc (length es)) 0 e in absurd (omega (arith, none))

found : (is : List Interval) (es L : List Entry) → T (is_sorted R L) → walked is es L ≡ true → AllByRecursion (λ (x : Entry). find R x.0 L ≡ Some x.1) es
unfolding walked
found is es [] s w = subst (λ (l : List Entry). AllByRecursion (λ (x : Entry). find R x.0 [] ≡ Some x.1) l) (sym (is_none es w)) tt
found is es (e ∷ more) s w = by (λ fs t. found (past e.0 is) fs more (second _ _ s) t) (is_begun e.0 (past e.0 is)) w
  where
    by : ((fs : List Entry) → walked (past e.0 is) fs more ≡ true → AllByRecursion (λ (x : Entry). find R x.0 more ≡ Some x.1) fs) → (b : Bool) → (if b then is_next e es (λ fs. walked (past e.0 is) fs more) else walked (past e.0 is) es more) ≡ true → AllByRecursion (λ (x : Entry). find R x.0 (e ∷ more) ≡ Some x.1) es
    by ih true t =
        let n = takes e es (λ fs. walked (past e.0 is) fs more) t in
        let here : find R n.next.0 (e ∷ more) ≡ Some n.next.1 = ap (λ (k : List ℕ). find R k (e ∷ more)) n.name ∙ itself e more ∙ ap Some (sym n.value) in
        let all : AllByRecursion (λ (x : Entry). find R x.0 (e ∷ more) ≡ Some x.1) (n.next ∷ n.rest) = (here, lifted e more n.rest s (ih n.rest n.goes)) in
        subst (λ (l : List Entry). AllByRecursion (λ (x : Entry). find R x.0 (e ∷ more) ≡ Some x.1) l) (sym n.is) all
    by ih false t = lifted e more es s (ih es t)

by_get : (m : Attributes) (es : List Entry) → AllByRecursion (λ (x : Entry). find R x.0 (fin.entries m) ≡ Some x.1) es → AllByRecursion (λ (x : Entry). fin.get m x.0 ≡ Some x.1) es
by_get m [] h = tt
by_get m (x ∷ es) h = (fin.get-entries m x.0 ∙ h.0, by_get m es h.1)

pub agree : (m : Attributes) (n : part.Names) → AreIntervals n.intervals → walked n.intervals n.entries (fin.entries m) ≡ true → AgreeNames n m
agree m n a w = record {
  entries = by_get m n.entries (found n.intervals n.entries (fin.entries m) (fin.entries_sorted m) w);
  others = λ q held none. fin.get-entries m q ∙ absent q n.intervals n.entries (fin.entries m) a (fin.entries_sorted m) w held none;
}

-- ---- the steps of the walk

cut_at : (L : List Entry) (n : ℕ) (e : Entry) → slice_get L n ≡ Some e → drop n L ≡ e ∷ drop (suc n) L
cut_at [] n e h = absurd (none-some e h)
cut_at (f ∷ L) zero e h = ap (λ (x : Entry). x ∷ L) (same_Some f e h)
cut_at (f ∷ L) (suc n) e h = cut_at L n e h

next_left : (L : List Entry) (n : ℕ) (e : Entry) → slice_get L n ≡ Some e → drop n L ≡ e ∷ drop (n + 1) L
next_left L n e h = rw add-one (cut_at L n e h)

bytes_itself : (a : List ℕ) → bytes_eq a a ≡ true
bytes_itself a = (bytes_eq-Decides a a).1 refl

entry_itself : (e : Entry) → is_entry e e ≡ true
entry_itself e = ap (λ (b : Bool). b && bytes_eq e.1 e.1) (bytes_itself e.0) ∙ bytes_itself e.1

walk_begun : (is : List Interval) (e : Entry) (es more : List Entry) → is_begun e.0 (past e.0 is) ≡ true → walked is (e ∷ es) (e ∷ more) ≡ walked (past e.0 is) es more
unfolding walked
walk_begun is e es more b =
    ap (λ (x : Bool). if x then is_next e (e ∷ es) (λ fs. walked (past e.0 is) fs more) else walked (past e.0 is) (e ∷ es) more) b
    ∙ ap (λ (x : Bool). x && walked (past e.0 is) es more) (entry_itself e)

walk_not : (is : List Interval) (e : Entry) (es more : List Entry) → is_begun e.0 (past e.0 is) ≡ false → walked is es (e ∷ more) ≡ walked (past e.0 is) es more
unfolding walked
walk_not is e es more b = ap (λ (x : Bool). if x then is_next e es (λ fs. walked (past e.0 is) fs more) else walked (past e.0 is) es more) b

-- over the entries that are left, with the intervals and entries that are left
pub step : (is left : List Interval) (es fs L : List Entry) (n : ℕ) (e : Entry) → slice_get L n ≡ Some e → left ≡ past e.0 is → IsAfter (is_begun e.0 left) e es fs →
    walked left fs (drop (n + 1) L) ≡ walked is es (drop n L)
step is left es fs L n e at l h =
    ap (λ (x : List Interval). walked x fs (drop (n + 1) L)) l
    ∙ by (is_begun e.0 (past e.0 is)) refl (subst (λ (x : List Interval). IsAfter (is_begun e.0 x) e es fs) l h)
    ∙ ap (walked is es) (sym (next_left L n e at))
  where
    by : (b : Bool) → is_begun e.0 (past e.0 is) ≡ b → IsAfter b e es fs → walked (past e.0 is) fs (drop (n + 1) L) ≡ walked is es (e ∷ drop (n + 1) L)
    by true b a = sym (walk_begun is e fs (drop (n + 1) L) b) ∙ ap (λ (x : List Entry). walked is x (e ∷ drop (n + 1) L)) (sym a)
    by false b a = ap (λ (x : List Entry). walked (past e.0 is) x (drop (n + 1) L)) a ∙ sym (walk_not is e es (drop (n + 1) L) b)

none_left : (L : List Entry) (n : ℕ) → length L ≤ n → drop n L ≡ []
none_left L n h = drop_all n L h

pub ended : (is : List Interval) (es L : List Entry) (n : ℕ) → length L ≤ n → es ≡ [] → walked is es (drop n L) ≡ true
unfolding walked
ended is es L n h none = ap (walked is es) (none_left L n h) ∙ ap (λ (x : List Entry). length x == 0) none

-- ---- blocks

-- data that has the bytes of a block there
pub block_here : (bytes found text : List ℕ) (at n : ℕ) → found ≡ object.part bytes at 4096 → at ≡ n * 4096 → false ≡ not (bytes_eq found text) → object.part bytes (4096 * n) 4096 ≡ text
block_here bytes found text at n is place same =
    let there : 4096 * n ≡ at = omega (arith, place) in
    ap (λ (p : ℕ). object.part bytes p 4096) there ∙ sym is ∙ by (bytes_eq found text) refl same
  where
    by : (b : Bool) → bytes_eq found text ≡ b → false ≡ not b → found ≡ text
    by true e h = bytes_same found text e
    by false e h = absurd cc

-- entries that are left after some more of them
pub past_more : {A : Type 0} (xs : List A) (n k : ℕ) → drop k (drop n xs) ≡ drop (n + k) xs
past_more xs n k = drop-drop k n xs

-- a slice from a place on
pub from_place : {A : Type 0} (xs : List A) (n : ℕ) → take (length xs - n) (drop n xs) ≡ drop n xs
from_place xs n = take_all (length xs - n) (drop n xs) (omega (arith, length-drop n xs))
