-- Intervals, what they hold, and their ends.
use Rattle.std.proofs.Common.{◌≡◌, ℕ, suc, zero, ◌+◌, ◌≤◌, Bool, true, false, cond, not, ◌&&◌, ◌||◌, List, [], ◌∷◌, ◌++◌, length, Option, Some, None, is_some, refl, ap, sym, subst, ◌∙◌, arith}
use Rattle.std.proofs.lemmas.Bool.Decides.{nat_tests}
use Rattle.std.specs.Borrow.{Bor}
use Rattle.std.specs.List.{slice_get}
use Rattle.std.specs.Option.{option_copied}
use Rattle.part_names.specs.declared.place.TheConstants.{PLACE_LIMIT}
use Rattle.part_names.specs.Order.{Interval, is_below, is_before, holds, is_held, ends_below, all_end_below, is_bound, may_follow, everything}
use Rattle.part_names.specs.Answers.{AllHeld}
use Rattle.part_names.specs.Apart.{AreApart, is_below_all, holder, IsReach}
use Rattle.part_names.proofs.Orders.{both, first_of_both, second_of_both, not_first, not_second, or_second, neither, turned_true, turned_false, apart, below_itself, below_chain, not_back, upto_below, upto_upto, least_of_all}

same_some : (i j : Interval) → ◌≡◌ {A = Option Interval} (Some i) (Some j) → i ≡ j
same_some i j e = cc

none_some : (j : Interval) → ◌≡◌ {A = Option Interval} None (Some j) → ⊥
none_some j e = cc

-- whether an interval holds a string is whether there is a first that does
pub held_holder : (is : List Interval) (a : List ℕ) → is_some (holder is a) ≡ is_held is a
held_holder [] a = refl
held_holder (i ∷ is) a =
    elim (holds i a) as (λ b. is_some (cond b (Some i) (holder is a)) ≡ (b || is_held is a)) [ true ↦ refl | false ↦ held_holder is a ]

pub not_held : (is : List Interval) (a : List ℕ) → holder is a ≡ None → is_held is a ≡ false
not_held is a e = sym (held_holder is a) ∙ ap is_some e

-- the whole interval holds all strings
pub everything_holds : (a : List ℕ) → is_held (everything ∷ []) a ≡ true
everything_holds a = ap (λ b. (not b && true) || false) (least_of_all a)

-- ---- the first interval that holds a string
pub holder_holds : (is : List Interval) (a : List ℕ) (i : Interval) → holder is a ≡ Some i → holds i a ≡ true
holder_holds [] a i e = absurd (none_some i e)
holder_holds (j ∷ js) a i e =
    elim (holds j a) as (λ b. holds j a ≡ b → cond b (Some j) (holder js a) ≡ Some i → holds i a ≡ true) [
      | true ↦ λ h f. ap (λ k. holds k a) (sym (same_some j i f)) ∙ h
      | false ↦ λ h f. holder_holds js a i f
    ] refl e

-- what it holds is held
pub holder_helps : (is : List Interval) (a b : List ℕ) (i : Interval) → holder is a ≡ Some i → holds i b ≡ true → is_held is b ≡ true
holder_helps [] a b i e h = absurd (none_some i e)
holder_helps (j ∷ js) a b i e h =
    elim (holds j a) as (λ t. cond t (Some j) (holder js a) ≡ Some i → is_held (j ∷ js) b ≡ true) [
      | true ↦ λ f. ap (λ t. t || is_held js b) (ap (λ k. holds k b) (same_some j i f) ∙ h)
      | false ↦ λ f. or_second (holds j b) (is_held js b) (holder_helps js a b i f h)
    ] e

holder_bound : (is : List Interval) (a : List ℕ) (i : Interval) → AreApart is → holder is a ≡ Some i → is_bound i.hi ≡ true
holder_bound [] a i p e = absurd (none_some i e)
holder_bound (j ∷ js) a i p e =
    elim (holds j a) as (λ t. cond t (Some j) (holder js a) ≡ Some i → is_bound i.hi ≡ true) [
      | true ↦ λ f. ap (λ (k : Interval). is_bound k.hi) (sym (same_some j i f)) ∙ p.1
      | false ↦ λ f. holder_bound js a i p.3 f
    ] e

-- an end below all intervals is below that one
holder_above : (is : List Interval) (a : List ℕ) (i : Interval) (hi : Option (List ℕ)) → is_below_all hi is ≡ true → holder is a ≡ Some i → ends_below hi i.lo ≡ true
holder_above [] a i hi p e = absurd (none_some i e)
holder_above (j ∷ js) a i hi p e =
    elim (holds j a) as (λ t. cond t (Some j) (holder js a) ≡ Some i → ends_below hi i.lo ≡ true) [
      | true ↦ λ f. ap (λ (k : Interval). ends_below hi k.lo) (sym (same_some j i f)) ∙ first_of_both _ _ p
      | false ↦ λ f. holder_above js a i hi (second_of_both _ _ p) f
    ] e

-- intervals that begin above an end don't hold it
free_below : (h : List ℕ) (is : List Interval) → is_below_all (Some h) is ≡ true → is_held is h ≡ false
free_below h [] p = refl
free_below h (i ∷ is) p =
    neither (holds i h) (is_held is h)
    (not_first (not (is_below h i.lo)) (is_before h i.hi) (ap not (first_of_both (is_below h i.lo) (is_below_all (Some h) is) p)))
    (free_below h is (second_of_both (is_below h i.lo) (is_below_all (Some h) is) p))

-- an interval that ends below a string doesn't hold what is above that
ended : (hi : Option (List ℕ)) (a h : List ℕ) → ends_below hi a ≡ true → is_below a h ≡ true → is_before h hi ≡ false
ended None a h p q = absurd (cc)
ended (Some g) a h p q = not_back g h (below_chain g a h p q)

-- no interval holds the end of one
pub free_end : (is : List Interval) (a h : List ℕ) (i : Interval) → AreApart is → holder is a ≡ Some i → i.hi ≡ Some h → is_held is h ≡ false
free_end [] a h i p e is_hi = absurd (none_some i e)
free_end (j ∷ js) a h i p e is_hi =
    elim (holds j a) as (λ t. cond t (Some j) (holder js a) ≡ Some i → is_held (j ∷ js) h ≡ false) [
      | true ↦ λ f.
          let hi : j.hi ≡ Some h = ap (λ (k : Interval). k.hi) (same_some j i f) ∙ is_hi in
          neither _ _ (not_second _ _ (ap (is_before h) hi ∙ below_itself h)) (free_below h js (ap (λ o. is_below_all o js) (sym hi) ∙ p.2))
      | false ↦ λ f.
          let there = holder_holds js a i f in
          let lo : is_below a i.lo ≡ false = turned_false _ (first_of_both _ _ there) in
          let hi : is_below a h ≡ true = ap (is_before a) (sym is_hi) ∙ second_of_both _ _ there in
          neither _ _ (not_second _ _ (ended j.hi i.lo h (holder_above js a i j.hi p.2 f) (upto_below i.lo a h lo hi))) (free_end js a h i p.3 f is_hi)
    ] e

bound_short : (a : List ℕ) → is_bound (Some a) ≡ true → length a ≤ PLACE_LIMIT
bound_short a e = grind (arith, nat_tests)

module _ (is : List Interval) (a : List ℕ) (i : Interval) (first : holder is a ≡ Some i) where
  -- it holds what stands between the string and its end
  reached : AllHeld is a i.hi
  reached b p q =
      let lo : is_below a i.lo ≡ false = turned_false _ (first_of_both _ _ (holder_holds is a i first)) in
      holder_helps is a b i first (both _ _ (turned_true _ (upto_upto i.lo a b lo p)) q)

  pub reach_end : (hi : Option (List ℕ)) → AreApart is → i.hi ≡ hi → IsReach is a hi
  reach_end None p e = subst (AllHeld is a) e reached
  reach_end (Some h) p e = record {
    from = not_back a h (ap (is_before a) (sym e) ∙ second_of_both _ _ (holder_holds is a i first));
    free = free_end is a h i p first e;
    first = subst (AllHeld is a) e reached;
    short = bound_short h (ap is_bound (sym e) ∙ holder_bound is a i p first);
  }

-- a string that no interval holds is itself the first
pub reach_itself : (is : List Interval) (a : List ℕ) → holder is a ≡ None → length a ≤ PLACE_LIMIT → IsReach is a (Some a)
reach_itself is a e l = record {
  from = below_itself a;
  free = not_held is a e;
  first = λ b p q. absurd (apart _ q p);
  short = l;
}

-- ---- one interval more
below_all_push : (hi : Option (List ℕ)) (is : List Interval) (i : Interval) → is_below_all hi is ≡ true → ends_below hi i.lo ≡ true → is_below_all hi (is ++ i ∷ []) ≡ true
below_all_push hi [] i p q = both _ _ q refl
below_all_push hi (j ∷ js) i p q = both _ _ (first_of_both _ _ p) (below_all_push hi js i (second_of_both _ _ p) q)

pub apart_push : (is : List Interval) (i : Interval) → AreApart is → all_end_below is i.lo ≡ true → is_before i.lo i.hi ≡ true → is_bound i.hi ≡ true → AreApart (is ++ i ∷ [])
apart_push [] i p q b s = (b, s, refl, tt)
apart_push (j ∷ js) i p q b s =
    (p.0, p.1, below_all_push j.hi js i p.2 (first_of_both _ _ q), apart_push js i p.3 (second_of_both _ _ q) b s)

-- after the interval that may follow
pub apart_after : (is : List Interval) (lo : List ℕ) (hi : Option (List ℕ)) → AreApart is → may_follow is lo hi ≡ true → AreApart (is ++ record { lo = lo; hi = hi } ∷ [])
apart_after is lo hi p f =
    let bounds : (is_bound (Some lo) && is_bound hi) ≡ true = first_of_both _ (is_before lo hi && all_end_below is lo) f in
    let order : (is_before lo hi && all_end_below is lo) ≡ true = second_of_both (is_bound (Some lo) && is_bound hi) _ f in
    apart_push is (record { lo = lo; hi = hi }) p (second_of_both (is_before lo hi) _ order) (first_of_both _ (all_end_below is lo) order) (second_of_both (is_bound (Some lo)) _ bounds)

-- nothing follows the interval that holds all strings
pub listed_follow : (all : Bool) (is : List Interval) (lo : List ℕ) (hi : Option (List ℕ)) → may_follow (cond all (everything ∷ []) is) lo hi ≡ true → may_follow is lo hi ≡ true
listed_follow true is lo hi f = absurd (apart _ f (not_second (is_bound (Some lo) && is_bound hi) _ (not_second (is_before lo hi) false refl)))
listed_follow false is lo hi f = f

-- ---- the last interval decides what may follow
ends_through : (hi : Option (List ℕ)) (k : Interval) (lo : List ℕ) → ends_below hi k.lo ≡ true → is_before k.lo k.hi ≡ true → ends_below k.hi lo ≡ true → ends_below hi lo ≡ true
ends_through None k lo p q e = absurd (cc)
ends_through (Some g) k lo p q e = by k.hi q e
  where
    by : (t : Option (List ℕ)) → is_before k.lo t ≡ true → ends_below t lo ≡ true → is_below g lo ≡ true
    by None q e = absurd (cc)
    by (Some h) q e = below_chain g h lo (below_chain g k.lo h p q) e

-- so what ends below the last interval ends below what that ends below
through_last : (hi : Option (List ℕ)) (is : List Interval) (n : ℕ) (k : Interval) (lo : List ℕ) → AreApart is → is_below_all hi is ≡ true → slice_get is n ≡ Some k → ends_below k.hi lo ≡ true → ends_below hi lo ≡ true
through_last hi [] n k lo p h e l = absurd (none_some k e)
through_last hi (i ∷ is) zero k lo p h e l =
    ends_through hi i lo (first_of_both (ends_below hi i.lo) (is_below_all hi is) h) p.0 (ap (λ (j : Interval). ends_below j.hi lo) (same_some i k e) ∙ l)
through_last hi (i ∷ is) (suc n) k lo p h e l = through_last hi is n k lo p.3 (second_of_both (ends_below hi i.lo) (is_below_all hi is) h) e l

one_and_none : (i k : Interval) (is : List Interval) (lo : List ℕ) → length is ≡ 0 → i ≡ k → ends_below k.hi lo ≡ all_end_below (i ∷ is) lo
one_and_none i k [] lo e s = ap (λ (j : Interval). ends_below j.hi lo) (sym s) ∙ sym (and_true (ends_below i.hi lo))
  where
    and_true : (b : Bool) → (b && true) ≡ b
    and_true true = refl
    and_true false = refl
one_and_none i k (j ∷ js) lo e s = absurd (omega (arith, e))

pub last_decides : (is : List Interval) (n : ℕ) (k : Interval) (lo : List ℕ) → AreApart is → length is ≡ n + 1 → slice_get is n ≡ Some k → ends_below k.hi lo ≡ all_end_below is lo
last_decides [] n k lo p m e = absurd (none_some k e)
last_decides (i ∷ is) zero k lo p m e = one_and_none i k is lo (omega arith) (same_some i k e)
last_decides (i ∷ is) (suc n) k lo p m e = more i is n k lo p e (last_decides is n k lo p.3 (omega arith) e)
  where
    more : (i : Interval) (is : List Interval) (n : ℕ) (k : Interval) (lo : List ℕ) → AreApart (i ∷ is) → slice_get is n ≡ Some k → ends_below k.hi lo ≡ all_end_below is lo → ends_below k.hi lo ≡ all_end_below (i ∷ is) lo
    more i is n k lo p e rest =
        elim (ends_below k.hi lo) as (λ b. ends_below k.hi lo ≡ b → b ≡ all_end_below (i ∷ is) lo) [
          | true ↦ λ t. sym (both (ends_below i.hi lo) (all_end_below is lo) (through_last i.hi is n k lo p.3 p.2 e t) (sym rest ∙ t))
          | false ↦ λ t. sym (not_second (ends_below i.hi lo) (all_end_below is lo) (sym rest ∙ t))
        ] refl

-- ---- no string that isn't held
pub reach_none : (is : List Interval) (r : Option (Bor (List ℕ))) (none : Bool) → is_some r ≡ not none → IsReach is [] (option_copied r) → none ≡ true → (a : List ℕ) → is_held is a ≡ true
reach_none is None none s h e a = h a (least_of_all a) refl
reach_none is (Some p) none s h e a = absurd (apart true refl (s ∙ ap not e))

pub reach_all : (is : List Interval) (r : Option (Bor (List ℕ))) (none : Bool) → is_some r ≡ not none → IsReach is [] (option_copied r) → ((a : List ℕ) → is_held is a ≡ true) → none ≡ true
reach_all is None true s h all = refl
reach_all is None false s h all = absurd (cc)
reach_all is (Some p) none s h all = absurd (apart _ (all p.now) h.free)

-- what may follow, if it is an interval within the limits
pub follow_rest : (a b o e : Bool) → a ≡ true → b ≡ true → o ≡ true → e ≡ ((a && b) && (o && e))
follow_rest true true true e p q r = refl
follow_rest true true false e p q r = absurd (cc)
follow_rest true false o e p q r = absurd (cc)
follow_rest false b o e p q r = absurd (cc)
