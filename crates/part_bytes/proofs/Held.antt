-- The walk over intervals and entries finds each entry in an interval if it is in one.
use Rattle.std.proofs.Common.{◌≡◌, ◌∙◌, ℕ, suc, ◌⊎◌, inl, inr, Bool, true, false, List, [], ◌∷◌, Option, Some, refl, ap, arith, length}
use Rattle.std.specs.Prelude.{◌&&◌, ◌||◌, ◌==◌, not, if◌then◌else◌}
use Rattle.std.specs.Ordering.{nat_cmp, is_lt}
use Rattle.std.specs.List.{AllByRecursion}
use Rattle.std.specs.Cmp.Lexicographic.{slice_cmp}
use Rattle.std.specs.declared.cmp.Ordering.{Ordering}
use Rattle.std.specs.declared.cmp.Ordering.TheVariants.{Less, Equal, Greater}
use Rattle.std.proofs.lemmas.Bool.{eqb-true}
use Rattle.std.proofs.lemmas.Cmp.{nat_list_cmp_total}
use Rattle.part_bytes.specs.Part.{Interval, Entry, IsBelow, IsInterval, after_interval, IsEntry, after_entry, AreInTurn, AreIntervals, IsHeld}
use Rattle.part_bytes.specs.inner.Reading.{is_below, is_end_of, past, is_begun, covers}

-- ---- tests and what they say
pub both_true : (a b : Bool) → (a && b) ≡ true → (a ≡ true) × (b ≡ true)
both_true true b e = (refl, e)
both_true false b e = absurd cc

pub true_both : (a b : Bool) → a ≡ true → b ≡ true → (a && b) ≡ true
true_both true b p q = q
true_both false b p q = absurd cc

is_less : (o : Ordering) → is_lt o ≡ true → o ≡ Less
is_less Less e = refl
is_less Equal e = absurd cc
is_less Greater e = absurd cc

pub below_is : (a b : List ℕ) → is_below a b ≡ true → IsBelow a b
below_is a b e = is_less (slice_cmp nat_cmp a b) e

pub is_below_so : (a b : List ℕ) → IsBelow a b → is_below a b ≡ true
is_below_so a b h = ap is_lt h

not_less : (o : Ordering) → ¬ (o ≡ Less) → not (is_lt o) ≡ true
not_less Less h = absurd (h refl)
not_less Equal h = refl
not_less Greater h = refl

not_true : (b : Bool) → not b ≡ true → b ≡ true → ⊥
not_true true e h = cc
not_true false e h = cc

pub is_empty : (xs : List ℕ) → (length xs == 0) ≡ true → xs ≡ []
is_empty [] e = refl
is_empty (x ∷ xs) e = let none : suc (length xs) ≡ 0 = eqb-true (suc (length xs)) 0 e in absurd (omega (arith, none))

or_is : (a b : Bool) → (a || b) ≡ true → (a ≡ true) ⊎ (b ≡ true)
or_is true b e = inl refl
or_is false b e = inr e

or_so : (a : Bool) → (a || true) ≡ true
or_so true = refl
or_so false = refl

pub to_end : (name high : List ℕ) → is_end_of name high ≡ true → (high ≡ []) ⊎ IsBelow name high
to_end name high e =
    elim (or_is (length high == 0) (is_below name high) e) [
      | inl none ↦ inl (is_empty high none)
      | inr below ↦ inr (below_is name high below)
    ]

pub end_so : (name high : List ℕ) → (high ≡ []) ⊎ IsBelow name high → is_end_of name high ≡ true
end_so name high (inl e) = ap (λ (h : List ℕ). is_end_of name h) e
end_so name high (inr h) = ap (λ (b : Bool). (length high == 0) || b) (is_below_so name high h) ∙ or_so (length high == 0)

below_trans : (a b c : List ℕ) → IsBelow a b → IsBelow b c → IsBelow a c
below_trans a b c p q = nat_list_cmp_total.trans a b c p q

-- ---- what the walk finds is in an interval
begun_held : (name : List ℕ) (is : List Interval) → is_begun name (past name is) ≡ true → IsHeld is name
unfolding past
begun_held name [] e = absurd cc
begun_held name (i ∷ is) e = by (begun_held name is) (is_end_of name i.1) refl e
  where
    by : (is_begun name (past name is) ≡ true → IsHeld is name) → (b : Bool) → is_end_of name i.1 ≡ b → is_begun name (if b then i ∷ is else past name is) ≡ true → IsHeld (i ∷ is) name
    by more true t e = inl (record { from = λ below. not_true (is_below name i.0) e (is_below_so name i.0 below); to = to_end name i.1 t })
    by more false t e = inr (more e)

past_held : (name q : List ℕ) (is : List Interval) → IsHeld (past name is) q → IsHeld is q
unfolding past
past_held name q [] h = h
past_held name q (i ∷ is) h = by (past_held name q is) (is_end_of name i.1) h
  where
    by : (IsHeld (past name is) q → IsHeld is q) → (b : Bool) → IsHeld (if b then i ∷ is else past name is) q → IsHeld (i ∷ is) q
    by more true h = h
    by more false h = inr (more h)

pub covers_held : (left is : List Interval) (es : List Entry) → ((q : List ℕ) → IsHeld left q → IsHeld is q) → covers left es ≡ true → AllByRecursion (λ (e : Entry). IsHeld is e.0) es
unfolding covers
covers_held left is [] f c = tt
covers_held left is (e ∷ es) f c =
    let p = both_true (is_begun e.0 (past e.0 left)) (covers (past e.0 left) es) c in
    (f e.0 (begun_held e.0 left p.0), covers_held (past e.0 left) is es (λ q h. f q (past_held e.0 q left h)) p.1)

-- ---- what is in an interval, the walk finds
ends_none : (q end : List ℕ) (is : List Interval) → AreInTurn IsInterval after_interval (Some end) is → end ≡ [] → IsHeld is q → ⊥
ends_none q end [] a e h = h
ends_none q end (i ∷ is) a e h = let some = a.0.begins.0 in let none = ap length e in omega (arith, some, none)

not_later : (q end : List ℕ) (is : List Interval) → AreInTurn IsInterval after_interval (Some end) is → IsBelow q end → IsHeld is q → ⊥
not_later q end [] a b h = h
not_later q end (i ∷ is) a b h =
    let low : IsBelow q i.0 = below_trans q end i.0 b a.0.begins.1 in
    elim h [
      | inl here ↦ here.from low
      | inr later ↦ elim a.0.rises [
        | inl e ↦ ends_none q i.1 is a.1 e later
        | inr rises ↦ not_later q i.1 is a.1 (below_trans q i.0 i.1 low rises) later
      ]
    ]

loosened : (before : Option (List ℕ)) (is : List Interval) → AreInTurn IsInterval after_interval before is → AreIntervals is
loosened before [] a = tt
loosened before (i ∷ is) a = (record { low = a.0.low; high = a.0.high; rises = a.0.rises; begins = tt }, a.1)

past_intervals : (name : List ℕ) (is : List Interval) → AreIntervals is → AreIntervals (past name is)
unfolding past
past_intervals name [] a = a
past_intervals name (i ∷ is) a = by (past_intervals name is (loosened (Some i.1) is a.1)) (is_end_of name i.1)
  where
    by : AreIntervals (past name is) → (b : Bool) → AreIntervals (if b then i ∷ is else past name is)
    by more true = a
    by more false = more

held_begun : (q : List ℕ) (is : List Interval) → AreIntervals is → IsHeld is q → is_begun q (past q is) ≡ true
unfolding past
held_begun q [] a h = absurd h
held_begun q (i ∷ is) a h = by (held_begun q is (loosened (Some i.1) is a.1)) (is_end_of q i.1) refl
  where
    not_before : IsHeld (i ∷ is) q → ¬ IsBelow q i.0
    not_before (inl here) = here.from
    not_before (inr later) = λ below. elim a.0.rises [
      | inl e ↦ ends_none q i.1 is a.1 e later
      | inr rises ↦ not_later q i.1 is a.1 (below_trans q i.0 i.1 below rises) later
    ]

    by : (IsHeld is q → is_begun q (past q is) ≡ true) → (b : Bool) → is_end_of q i.1 ≡ b → is_begun q (if b then i ∷ is else past q is) ≡ true
    by more true t = not_less (slice_cmp nat_cmp q i.0) (not_before h)
    by more false t = elim h [
      | inl here ↦ (let so = end_so q i.1 here.to in absurd cc)
      | inr later ↦ more later
    ]

later_held : (name q : List ℕ) (is : List Interval) → IsBelow name q → IsHeld is q → IsHeld (past name is) q
unfolding past
later_held name q [] below h = h
later_held name q (i ∷ is) below h = by (later_held name q is below) (is_end_of name i.1) refl
  where
    to : (i.1 ≡ []) ⊎ IsBelow q i.1 → (i.1 ≡ []) ⊎ IsBelow name i.1
    to (inl e) = inl e
    to (inr h) = inr (below_trans name q i.1 below h)

    by : (IsHeld is q → IsHeld (past name is) q) → (b : Bool) → is_end_of name i.1 ≡ b → IsHeld (if b then i ∷ is else past name is) q
    by more true t = h
    by more false t = elim h [
      | inl here ↦ (let so = end_so name i.1 (to here.to) in absurd cc)
      | inr later ↦ more later
    ]

all_later : (name before : List ℕ) (left : List Interval) (es : List Entry) → ((q : List ℕ) → IsBelow before q → IsBelow name q) → AreInTurn IsEntry after_entry before es
    → AllByRecursion (λ (e : Entry). IsHeld left e.0) es → AllByRecursion (λ (e : Entry). IsHeld (past name left) e.0) es
all_later name before left [] f a h = tt
all_later name before left (e ∷ es) f a h =
    let below = f e.0 a.0.above in
    (later_held name e.0 left below h.0, all_later name e.0 left es (λ q lt. below_trans name e.0 q below lt) a.1 h.1)

pub held_covers : (before : List ℕ) (left : List Interval) (es : List Entry) → AreIntervals left → AreInTurn IsEntry after_entry before es → AllByRecursion (λ (e : Entry). IsHeld left e.0) es → covers left es ≡ true
unfolding covers
held_covers before left [] i a h = refl
held_covers before left (e ∷ es) i a h =
    true_both (is_begun e.0 (past e.0 left)) (covers (past e.0 left) es) (held_begun e.0 left i h.0)
    (held_covers e.0 (past e.0 left) es (past_intervals e.0 left i) a.1 (all_later e.0 e.0 left es (λ q lt. lt) a.1 h.1))
