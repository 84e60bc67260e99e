-- A part's intervals as those that are learned: what they hold, and that each may be learned after those before it.
use Rattle.std.proofs.Common.{◌≡◌, ◌∙◌, ◌⊎◌, inl, inr, ℕ, ◌≤◌, Bool, true, false, not, ◌&&◌, ◌||◌, List, [], ◌∷◌, ◌++◌, Option, Some, None, length, map, refl, ap, arith, append_assoc}
use Rattle.std.proofs.lemmas.Bool.Decides.{nat_tests}
use Rattle.std.proofs.lemmas.Cmp.{nat_list_cmp_total}
use Rattle.part_bytes.specs.Part.{IsBelow, IsBegin, IsInterval, after_interval, AreInTurn, AreIntervals, Holds, IsHeld, Everything}
use Rattle.part_bytes.specs.Part as part
use Rattle.part_names.specs.Order.{Interval, is_below, is_before, is_bound, holds, is_held, ends_below, all_end_below, may_follow, everything}
use Rattle.part_bytes.proofs.Held.{below_is, is_below_so, both_true, true_both}
use Rattle.parts.specs.inner.Part.{end_of, interval_of}

-- ---- what is held
not_not : (b : Bool) → not b ≡ true → b ≡ true → ⊥
not_not true p q = cc
not_not false p q = cc

unless : (b : Bool) → (b ≡ true → ⊥) → not b ≡ true
unless true h = absurd (h refl)
unless false h = refl

either : (a b : Bool) → (a || b) ≡ true → (a ≡ true) ⊎ (b ≡ true)
either true b h = inl refl
either false b h = inr h

or_second : (a b : Bool) → b ≡ true → (a || b) ≡ true
or_second true b h = refl
or_second false b h = h

pub before_end : (name high : List ℕ) → (high ≡ []) ⊎ IsBelow name high → is_before name (end_of high) ≡ true
before_end name [] h = refl
before_end name (x ∷ xs) (inl e) = absurd (cc e)
before_end name (x ∷ xs) (inr h) = is_below_so name (x ∷ xs) h

end_before : (name high : List ℕ) → is_before name (end_of high) ≡ true → (high ≡ []) ⊎ IsBelow name high
end_before name [] h = inl refl
end_before name (x ∷ xs) h = inr (below_is name (x ∷ xs) h)

pub held_so : (is : List part.Interval) (name : List ℕ) → IsHeld is name → is_held (map interval_of is) name ≡ true
held_so [] name h = absurd h
held_so (i ∷ is) name (inl h) = ap (λ b. b || is_held (map interval_of is) name) (true_both _ _ (unless _ (λ b. h.from (below_is name i.0 b))) (before_end name i.1 h.to))
held_so (i ∷ is) name (inr h) = or_second (holds (interval_of i) name) _ (held_so is name h)

pub so_held : (is : List part.Interval) (name : List ℕ) → is_held (map interval_of is) name ≡ true → IsHeld is name
so_held [] name h = absurd (cc h)
so_held (i ∷ is) name h = by (so_held is name) (either (holds (interval_of i) name) (is_held (map interval_of is) name) h)
  where
    by : (is_held (map interval_of is) name ≡ true → IsHeld is name) → (holds (interval_of i) name ≡ true) ⊎ (is_held (map interval_of is) name ≡ true) → IsHeld (i ∷ is) name
    by more (inl p) =
        let q = both_true (not (is_below name i.0)) (is_before name (end_of i.1)) p in
        inl (record { from = λ b. not_not _ q.0 (is_below_so name i.0 b); to = end_before name i.1 q.1 })
    by more (inr p) = inr (more p)

-- one interval that holds all
least_of_all : (a : List ℕ) → is_below a [] ≡ false
least_of_all [] = refl
least_of_all (x ∷ a) = refl

pub everything_held : (name : List ℕ) → is_held (everything ∷ []) name ≡ true
everything_held name = ap (λ b. (not b && true) || false) (least_of_all name)

pub whole_held : (is : List part.Interval) → is ≡ Everything → (name : List ℕ) → is_held (map interval_of is) name ≡ true
whole_held is e name = ap (λ (x : List part.Interval). is_held (map interval_of x) name) e ∙ everything_held name

-- ---- what may be learned
below_chain : (a b c : List ℕ) → is_below a b ≡ true → is_below b c ≡ true → is_below a c ≡ true
below_chain a b c p q = is_below_so a c (nat_list_cmp_total.trans a b c (below_is a b p) (below_is b c q))

ends_lower : (hi : Option (List ℕ)) (a b : List ℕ) → ends_below hi a ≡ true → is_below a b ≡ true → ends_below hi b ≡ true
ends_lower None a b p q = absurd (cc)
ends_lower (Some h) a b p q = below_chain h a b p q

all_lower : (is : List Interval) (a b : List ℕ) → all_end_below is a ≡ true → is_below a b ≡ true → all_end_below is b ≡ true
all_lower [] a b p q = refl
all_lower (i ∷ is) a b p q =
    let h = both_true (ends_below i.hi a) (all_end_below is a) p in
    true_both _ _ (ends_lower i.hi a b h.0 q) (all_lower is a b h.1 q)

all_push : (is : List Interval) (i : Interval) (a : List ℕ) → all_end_below is a ≡ true → ends_below i.hi a ≡ true → all_end_below (is ++ i ∷ []) a ≡ true
all_push [] i a p q = true_both _ _ q refl
all_push (j ∷ js) i a p q =
    let h = both_true (ends_below j.hi a) (all_end_below js a) p in
    true_both _ _ h.0 (all_push js i a h.1 q)

-- the intervals that are left may be learned, each after those before it
pub record GoesOn (is : List Interval) (rest : List part.Interval) : Type 0 where
  pub before : Option (List ℕ)
  pub turn : AreInTurn IsInterval after_interval before rest
  pub above : (a : List ℕ) → IsBegin before a → all_end_below is a ≡ true

pub begin : (rest : List part.Interval) (is : List Interval) → is ≡ [] → AreIntervals rest → GoesOn is rest
begin rest is e t = record { before = None; turn = t; above = λ a b. ap (λ (x : List Interval). all_end_below x a) e }

short : (a : List ℕ) → length a ≤ 65 → is_bound (Some a) ≡ true
short a h = grind (arith, nat_tests)

end_short : (high : List ℕ) → length high ≤ 65 → is_bound (end_of high) ≡ true
end_short [] h = refl
end_short (x ∷ xs) h = short (x ∷ xs) h

pub may_learn : (is : List Interval) (i : part.Interval) (rest : List part.Interval) → GoesOn is (i ∷ rest) → may_follow is i.0 (end_of i.1) ≡ true
may_learn is i rest g =
    let t = g.turn.0 in
    true_both _ _
    (true_both _ _ (short i.0 t.low) (end_short i.1 t.high))
    (true_both _ _ (before_end i.0 i.1 t.rises) (g.above i.0 t.begins))

ends_at : (high a : List ℕ) → 1 ≤ length high → IsBelow high a → ends_below (end_of high) a ≡ true
ends_at [] a some h = absurd (omega (arith, some))
ends_at (x ∷ xs) a some h = is_below_so (x ∷ xs) a h

rises_through : (low high : List ℕ) → (high ≡ []) ⊎ IsBelow low high → 1 ≤ length high → is_below low high ≡ true
rises_through low high (inl e) some = let n = ap length e in absurd (omega (arith, n, some))
rises_through low high (inr h) some = is_below_so low high h

pub go_on : (is : List Interval) (i : part.Interval) (rest : List part.Interval) → GoesOn is (i ∷ rest) → GoesOn (is ++ interval_of i ∷ []) rest
go_on is i rest g =
    let t = g.turn.0 in
    record {
      before = Some i.1;
      turn = g.turn.1;
      above = λ a b.
          let lower = below_chain i.0 i.1 a (rises_through i.0 i.1 t.rises b.0) (is_below_so i.1 a b.1) in
          all_push is (interval_of i) a (all_lower is i.0 a (g.above i.0 t.begins) lower) (ends_at i.1 a b.0 b.1);
    }

pub one_more : (is : List Interval) (i : Interval) (rest : List Interval) → (is ++ i ∷ []) ++ rest ≡ is ++ (i ∷ rest)
one_more is i rest = append_assoc is (i ∷ []) rest
