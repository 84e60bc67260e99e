-- The interval that holds a string is the first that ends above it, if any is.
use Rattle.std.proofs.Common.{◌≡◌, ℕ, suc, zero, ◌<◌, Bool, true, false, cond, not, List, [], ◌∷◌, length, Option, Some, None, refl, ap, ◌∙◌, arith}
use Rattle.std.specs.List.{slice_get, slice_index_or}
use Rattle.std.specs.List.Sorted.{IsPartitionPoint, IsPartitionedBy}
use Rattle.part_names.specs.Order.{Interval, is_below, is_before, holds, ends_below}
use Rattle.part_names.specs.Apart.{AreApart, is_below_all, holder}
use Rattle.part_names.proofs.Orders.{first_of_both, second_of_both, not_first, not_second, below_chain, not_back, upto_upto, turned_false, turned_true}

-- whether an interval ends at or below a string
abbrev pub ends_upto : List ℕ → Interval → Bool
ends_upto a i = not (is_before a i.hi)

-- an interval, if it holds a string
abbrev pub if_holds : List ℕ → Option Interval → Option Interval
if_holds a None = None
if_holds a (Some i) = cond (holds i a) (Some i) None

-- what begins above an end doesn't hold what is before it
none_after : (a : List ℕ) (hi : Option (List ℕ)) (is : List Interval) → is_before a hi ≡ true → is_below_all hi is ≡ true → holder is a ≡ None
none_after a hi [] p h = refl
none_after a None (i ∷ is) p h = absurd (cc)
none_after a (Some g) (i ∷ is) p h =
    let low : is_below a i.lo ≡ true = below_chain a g i.lo p (first_of_both (is_below g i.lo) (is_below_all (Some g) is) h) in
    ap (λ b. cond b (Some i) (holder is a)) (not_first (not (is_below a i.lo)) (is_before a i.hi) (ap not low))
    ∙ none_after a (Some g) is p (second_of_both (is_below g i.lo) (is_below_all (Some g) is) h)

-- the first interval that ends above a string, if it holds the string, is the one that does
pub search_holder : (a : List ℕ) (is : List Interval) (n : ℕ) → AreApart is → IsPartitionPoint (λ i. ends_upto a i ≡ true) (λ i. ends_upto a i ≡ false) is n → holder is a ≡ if_holds a (slice_get is n)
search_holder a [] n p h = refl
search_holder a (i ∷ is) zero p h =
    let ahead : is_before a i.hi ≡ true = back (is_before a i.hi) (h.1 0 i (omega arith) (omega arith)) in
    ap (λ o. cond (holds i a) (Some i) o) (none_after a i.hi is ahead p.2)
  where
    back : (b : Bool) → not b ≡ false → b ≡ true
    back true e = refl
    back false e = absurd (cc)
search_holder a (i ∷ is) (suc n) p h =
    let over : is_before a i.hi ≡ false = turned_false (is_before a i.hi) (h.0 0 i (omega arith) (omega arith)) in
    ap (λ b. cond b (Some i) (holder is a)) (not_second (not (is_below a i.lo)) (is_before a i.hi) over)
    ∙ search_holder a is n p.3 (λ k d l u. h.0 (suc k) d (omega arith) (omega arith), λ k d l u. h.1 (suc k) d (omega arith) (omega arith))

-- ---- intervals that end at or below a string stand before the others
-- an interval that stands after an end and ends at or below a string, so does the end
passed : (a : List ℕ) (hi : Option (List ℕ)) (is : List Interval) (k : ℕ) (d : Interval) → AreApart is → is_below_all hi is ≡ true → k < length is → ends_upto a (slice_index_or is k d) ≡ true → not (is_before a hi) ≡ true
passed a hi [] k d p h l e = absurd (omega arith)
passed a None (i ∷ is) zero d p h l e = absurd (cc)
passed a (Some g) (i ∷ is) zero d p h l e =
    by i.hi p.0 (turned_false _ e)
  where
    up : is_below g i.lo ≡ true
    up = first_of_both (is_below g i.lo) (is_below_all (Some g) is) h

    by : (hi : Option (List ℕ)) → is_before i.lo hi ≡ true → is_before a hi ≡ false → not (is_below a g) ≡ true
    by None q f = absurd (cc)
    by (Some t) q f = turned_true _ (upto_upto g t a (not_back g t (below_chain g i.lo t up q)) f)
passed a hi (i ∷ is) (suc k) d p h l e = passed a hi is k d p.3 (second_of_both (ends_below hi i.lo) (is_below_all hi is) h) (omega arith) e

pub parted : (a : List ℕ) (is : List Interval) → AreApart is → IsPartitionedBy (ends_upto a) is
parted a [] p n m d l u e = absurd (omega arith)
parted a (i ∷ is) p zero zero d l u e = e
parted a (i ∷ is) p zero (suc m) d l u e = passed a i.hi is m d p.3 p.2 (omega arith) e
parted a (i ∷ is) p (suc n) zero d l u e = absurd (omega arith)
parted a (i ∷ is) p (suc n) (suc m) d l u e = parted a is p.3 n m d (omega arith) (omega arith) e
