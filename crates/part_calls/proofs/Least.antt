-- The order of strings, and the least name above some bytes.
use Rattle.std.proofs.Common.{◌≡◌, ℕ, Bool, true, false, cond, ◌&&◌, T, List, [], ◌∷◌, Option, Some, None, is_some, refl, ap, sym, ◌∙◌}
use Rattle.std.specs.Ordering.{nat_cmp, is_lt, is_eq, eq_by_cmp, ordering_reverse}
use Rattle.std.specs.declared.cmp.Ordering.{Ordering}
use Rattle.std.specs.declared.cmp.Ordering.TheVariants.{Less, Equal, Greater}
use Rattle.std.specs.Cmp.Lexicographic.{slice_cmp}
use Rattle.std.proofs.lemmas.Cmp.{nat_list_cmp_total, tied_itself}
use Rattle.std.proofs.lemmas.Map.Lookups.{exact_bytes}
use Rattle.std.specs.FinMap as fin
use Rattle.std.specs.FinMap.{find, is_sorted}
use Rattle.std.specs.FinMap.Entries.{below_all}
use Rattle.shared_map.specs.Entries.{Entries, least_above, key_above}
use Rattle.object_store.specs.Object.{Attributes}
use Rattle.part_names.specs.Order.{is_below, is_before}

abbrev order : List ℕ → List ℕ → Ordering
order a b = slice_cmp nat_cmp a b

less : (r : Ordering) → is_lt r ≡ true → r ≡ Less
less Less p = refl
less Equal p = absurd (cc)
less Greater p = absurd (cc)

pub first_of_both : (a b : Bool) → (a && b) ≡ true → a ≡ true
first_of_both true b p = refl
first_of_both false b p = absurd (cc)

pub second_of_both : (a b : Bool) → (a && b) ≡ true → b ≡ true
second_of_both true b p = p
second_of_both false b p = absurd (cc)

pub below_is : (a b : List ℕ) → is_below a b ≡ true → order a b ≡ Less
below_is a b p = less _ p

pub is_lower : (a b : List ℕ) → order a b ≡ Less → is_below a b ≡ true
is_lower a b p = ap is_lt p

pub below_chain : (a b c : List ℕ) → is_below a b ≡ true → is_below b c ≡ true → is_below a c ≡ true
below_chain a b c p q = is_lower a c (nat_list_cmp_total.trans a b c (below_is a b p) (below_is b c q))

-- a string is below another, equal, or above
pub data Stands (a b : List ℕ) : Type 0 where
  below : is_below a b ≡ true → Stands a b
  level : a ≡ b → Stands a b
  above : is_below b a ≡ true → Stands a b

stands_by : (a b : List ℕ) (r : Ordering) → order a b ≡ r → Stands a b
stands_by a b Less e = below (ap is_lt e)
stands_by a b Equal e = level (exact_bytes a b e)
stands_by a b Greater e = above (ap is_lt (nat_list_cmp_total.antisymm b a ∙ ap ordering_reverse e))

pub stands : (a b : List ℕ) → Stands a b
stands a b = stands_by a b _ refl

pub apart : (b : Bool) → b ≡ true → b ≡ false → ⊥
apart b p q = cc

-- a ≤ b < c
pub upto_below : (a b c : List ℕ) → is_below b a ≡ false → is_below b c ≡ true → is_below a c ≡ true
upto_below a b c p q = elim (stands a b) [
  | below h ↦ below_chain a b c h q
  | level e ↦ ap (λ x. is_below x c) e ∙ q
  | above h ↦ absurd (apart _ h p)
]

same_some : (x y : List ℕ) → ◌≡◌ {A = Option (List ℕ)} (Some x) (Some y) → x ≡ y
same_some x y e = cc

none_some : (y : List ℕ) → ◌≡◌ {A = Option (List ℕ)} None (Some y) → ⊥
none_some y e = cc

from_T : (b : Bool) → T b → b ≡ true
from_T true h = refl
from_T false h = absurd h

untied : (a b : List ℕ) → is_below a b ≡ true → eq_by_cmp (slice_cmp nat_cmp) a b ≡ false
untied a b h = elim (slice_cmp nat_cmp a b) as (λ r. is_lt r ≡ true → is_eq r ≡ false) [ Less ↦ λ p. refl | Equal ↦ λ p. absurd (cc) | Greater ↦ λ p. refl ] h

untied_back : (a b : List ℕ) → is_below b a ≡ true → eq_by_cmp (slice_cmp nat_cmp) a b ≡ false
untied_back a b h = elim (slice_cmp nat_cmp a b) as (λ r. slice_cmp nat_cmp a b ≡ r → is_eq r ≡ false) [
  | Less ↦ λ p. refl
  | Equal ↦ λ p. absurd (apart _ h (ap is_lt (tied_back p)))
  | Greater ↦ λ p. refl
] refl
  where
    tied_back : slice_cmp nat_cmp a b ≡ Equal → slice_cmp nat_cmp b a ≡ Equal
    tied_back p = nat_list_cmp_total.antisymm b a ∙ ap ordering_reverse p

module _ {V : Type 0} where
  -- a name below all of a list in order isn't in it
  find_low : (q : List ℕ) (es : Entries V) → below_all (slice_cmp nat_cmp) q es ≡ true → find (slice_cmp nat_cmp) q es ≡ None
  find_low q [] h = refl
  find_low q (e ∷ es) h =
      ap (λ b. cond b (Some e.1) (find (slice_cmp nat_cmp) q es)) (untied q e.0 (first_of_both _ _ h)) ∙ find_low q es (second_of_both _ _ h)

  lower : (q k : List ℕ) (es : Entries V) → is_below q k ≡ true → below_all (slice_cmp nat_cmp) k es ≡ true → below_all (slice_cmp nat_cmp) q es ≡ true
  lower q k [] p h = refl
  lower q k (e ∷ es) p h = ap (λ b. b && below_all (slice_cmp nat_cmp) q es) (below_chain q k e.0 p (first_of_both _ _ h)) ∙ lower q k es p (second_of_both _ _ h)

  -- what stands above some bytes and before the least name above them isn't there
  absent_between : (k q : List ℕ) (es : Entries V) → is_sorted (slice_cmp nat_cmp) es ≡ true → is_below k q ≡ true → is_before q (least_above k es) ≡ true → find (slice_cmp nat_cmp) q es ≡ None
  absent_between k q [] s p h = refl
  absent_between k q (e ∷ es) s p h =
      elim (is_below k e.0) as (λ b. is_below k e.0 ≡ b → is_before q (cond b (Some e.0) (least_above k es)) ≡ true → find (slice_cmp nat_cmp) q (e ∷ es) ≡ None) [
        | true ↦ λ t f. find_low q (e ∷ es) (ap (λ b. b && below_all (slice_cmp nat_cmp) q es) f ∙ lower q e.0 es f (first_of_both _ _ s))
        | false ↦ λ t f.
            ap (λ b. cond b (Some e.1) (find (slice_cmp nat_cmp) q es)) (untied_back q e.0 (upto_below e.0 k q t p))
            ∙ absent_between k q es (second_of_both _ _ s) p f
      ] refl h

  -- the least name above some bytes is above them
  least_is_above : (k n : List ℕ) (es : Entries V) → least_above k es ≡ Some n → is_below k n ≡ true
  least_is_above k n [] e = absurd (none_some n e)
  least_is_above k n (x ∷ es) e =
      elim (is_below k x.0) as (λ b. is_below k x.0 ≡ b → cond b (Some x.0) (least_above k es) ≡ Some n → is_below k n ≡ true) [
        | true ↦ λ t f. ap (is_below k) (sym (same_some x.0 n f)) ∙ t
        | false ↦ λ t f. least_is_above k n es f
      ] refl e

  -- and is there
  least_is_there : (k n : List ℕ) (es : Entries V) → least_above k es ≡ Some n → is_some (find (slice_cmp nat_cmp) n es) ≡ true
  least_is_there k n [] e = absurd (none_some n e)
  least_is_there k n (x ∷ es) e =
      elim (is_below k x.0) as (λ b. cond b (Some x.0) (least_above k es) ≡ Some n → is_some (find (slice_cmp nat_cmp) n (x ∷ es)) ≡ true) [
        | true ↦ λ f. ap (λ y. is_some (cond (eq_by_cmp (slice_cmp nat_cmp) y x.0) (Some x.1) (find (slice_cmp nat_cmp) y es))) (sym (same_some x.0 n f))
            ∙ ap (λ r. is_some (cond (is_eq r) (Some x.1) (find (slice_cmp nat_cmp) x.0 es))) (tied_itself nat_list_cmp_total x.0)
        | false ↦ λ f. elim (eq_by_cmp (slice_cmp nat_cmp) n x.0) as (λ b. is_some (cond b (Some x.1) (find (slice_cmp nat_cmp) n es)) ≡ true) [ true ↦ refl | false ↦ least_is_there k n es f ]
      ] e

module _ (m : Attributes) (k : List ℕ) where
  pub above_is_above : (n : List ℕ) → key_above m k ≡ Some n → is_below k n ≡ true
  above_is_above n e = least_is_above k n (fin.entries m) e

  pub above_is_there : (n : List ℕ) → key_above m k ≡ Some n → is_some (fin.get m n) ≡ true
  above_is_there n e = ap is_some (fin.get-entries m n) ∙ least_is_there k n (fin.entries m) e

  pub none_between : (q : List ℕ) → is_below k q ≡ true → is_before q (key_above m k) ≡ true → fin.get m q ≡ None
  none_between q p h = fin.get-entries m q ∙ absent_between k q (fin.entries m) (from_T _ (fin.entries_sorted m)) p h

pub some_none : (o : Option (List ℕ)) → is_some o ≡ true → o ≡ None → ⊥
some_none None p e = absurd (cc)
some_none (Some x) p e = cc
