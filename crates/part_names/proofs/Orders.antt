-- The order of strings.
use Rattle.std.proofs.Common.{◌≡◌, ℕ, suc, zero, Bool, true, false, not, ◌&&◌, ◌||◌, List, [], ◌∷◌, ◌++◌, Option, Some, None, is_some, refl, ap, sym, ◌∙◌, arith}
use Rattle.std.specs.Borrow.{Bor}
use Rattle.std.specs.Option.{option_copied}
use Rattle.std.specs.Ordering.{nat_cmp, is_lt, ordering_then, ordering_reverse}
use Rattle.std.specs.declared.cmp.Ordering.{Ordering}
use Rattle.std.specs.declared.cmp.Ordering.TheVariants.{Less, Equal, Greater}
use Rattle.std.specs.Cmp.Lexicographic.{slice_cmp}
use Rattle.std.proofs.lemmas.Cmp.{nat_list_cmp_total, nat_cmp_total, tied_itself}
use Rattle.std.proofs.lemmas.Bool.Decides.{nat_tests}
use Rattle.std.proofs.lemmas.Grind.{common_steps}
use Rattle.std.proofs.lemmas.Map.Lookups.{exact_bytes}
use Rattle.part_names.specs.Order.{is_below, least_from}

abbrev order : List ℕ → List ℕ → Ordering
order a b = slice_cmp nat_cmp a b

less : (r : Ordering) → is_lt r ≡ true → r ≡ Less
less Less p = refl
less Equal p = absurd (cc)
less Greater p = absurd (cc)

pub both : (a b : Bool) → a ≡ true → b ≡ true → (a && b) ≡ true
both true b p q = q
both false b p q = absurd (cc)

pub first_of_both : (a b : Bool) → (a && b) ≡ true → a ≡ true
first_of_both true b p = refl
first_of_both false b p = absurd (cc)

pub second_of_both : (a b : Bool) → (a && b) ≡ true → b ≡ true
second_of_both true b p = p
second_of_both false b p = absurd (cc)

pub not_second : (a b : Bool) → b ≡ false → (a && b) ≡ false
not_second true b p = p
not_second false b p = refl

pub not_first : (a b : Bool) → a ≡ false → (a && b) ≡ false
not_first true b p = absurd (cc)
not_first false b p = refl

pub or_second : (a b : Bool) → b ≡ true → (a || b) ≡ true
or_second true b p = refl
or_second false b p = p

pub neither : (a b : Bool) → a ≡ false → b ≡ false → (a || b) ≡ false
neither true b p q = absurd (cc)
neither false b p q = q

pub turned_true : (a : Bool) → a ≡ false → not a ≡ true
turned_true a p = ap not p

pub turned_false : (a : Bool) → not a ≡ true → a ≡ false
turned_false true p = absurd (cc)
turned_false false p = refl

-- whether there is something behind a reference
pub some_copied : {V : Type 0} (o : Option (Bor V)) → is_some o ≡ is_some (option_copied o)
some_copied None = refl
some_copied (Some x) = refl

pub below_is : (a b : List ℕ) → is_below a b ≡ true → order a b ≡ Less
below_is a b p = less _ p

pub is_lower : (a b : List ℕ) → order a b ≡ Less → is_below a b ≡ true
is_lower a b p = ap is_lt p

pub below_itself : (a : List ℕ) → is_below a a ≡ false
below_itself a = ap is_lt (tied_itself nat_list_cmp_total a)

pub below_chain : (a b c : List ℕ) → is_below a b ≡ true → is_below b c ≡ true → is_below a c ≡ true
below_chain a b c p q = is_lower a c (nat_list_cmp_total.trans a b c (below_is a b p) (below_is b c q))

pub not_back : (a b : List ℕ) → is_below a b ≡ true → is_below b a ≡ false
not_back a b p = ap is_lt (nat_list_cmp_total.antisymm b a ∙ ap ordering_reverse (below_is a b p))

-- a string is below another, equal, or above
pub data Stands (a b : List ℕ) : Type 0 where
  below : is_below a b ≡ true → Stands a b
  level : a ≡ b → Stands a b
  above : is_below b a ≡ true → Stands a b

stands_by : (a b : List ℕ) (r : Ordering) → order a b ≡ r → Stands a b
stands_by a b Less e = below (ap is_lt e)
stands_by a b Equal e = level (exact_bytes a b e)
stands_by a b Greater e = above (ap is_lt (nat_list_cmp_total.antisymm b a ∙ ap ordering_reverse e))

pub stands : (a b : List ℕ) → Stands a b
stands a b = stands_by a b _ refl

pub apart : (b : Bool) → b ≡ true → b ≡ false → ⊥
apart b p q = cc

-- a ≤ b < c
pub upto_below : (a b c : List ℕ) → is_below b a ≡ false → is_below b c ≡ true → is_below a c ≡ true
upto_below a b c p q = elim (stands a b) [
  | below h ↦ below_chain a b c h q
  | level e ↦ ap (λ x. is_below x c) e ∙ q
  | above h ↦ absurd (apart _ h p)
]

-- a < b ≤ c
pub below_upto : (a b c : List ℕ) → is_below a b ≡ true → is_below c b ≡ false → is_below a c ≡ true
below_upto a b c p q = elim (stands b c) [
  | below h ↦ below_chain a b c p h
  | level e ↦ ap (is_below a) (sym e) ∙ p
  | above h ↦ absurd (apart _ h q)
]

-- a ≤ b ≤ c
pub upto_upto : (a b c : List ℕ) → is_below b a ≡ false → is_below c b ≡ false → is_below c a ≡ false
upto_upto a b c p q = elim (stands a c) [
  | below h ↦ not_back a c h
  | level e ↦ ap (is_below c) e ∙ below_itself c
  | above h ↦ absurd (apart _ (below_upto c a b h p) q)
]

pub least_of_all : (a : List ℕ) → is_below a [] ≡ false
least_of_all [] = refl
least_of_all (x ∷ a) = refl

-- ---- the least string above another is it with a zero byte behind
past_zero : (a : List ℕ) → is_lt (slice_cmp nat_cmp a []) ≡ false
past_zero a = least_of_all a

past_none : (x : ℕ) → nat_cmp (suc x) 0 ≡ Greater
past_none x = grind (arith, nat_tests)

zero_first : (x : ℕ) (a : List ℕ) → is_below (x ∷ a) (0 ∷ []) ≡ false
zero_first zero a = least_of_all a
zero_first (suc x) a = ap (λ r. is_lt (ordering_then r (slice_cmp nat_cmp a []))) (past_none x)

pub past_next : (b a : List ℕ) → is_below b a ≡ true → is_below a (b ++ 0 ∷ []) ≡ false
past_next [] [] h = absurd (cc)
past_next [] (x ∷ a) h = zero_first x a
past_next (y ∷ b) [] h = absurd (cc)
past_next (y ∷ b) (x ∷ a) h =
    elim (nat_cmp y x) as (λ r. nat_cmp y x ≡ r → is_lt (ordering_then r (slice_cmp nat_cmp b a)) ≡ true → is_below (x ∷ a) (y ∷ b ++ 0 ∷ []) ≡ false) [
      | Less ↦ λ e g. ap (λ r. is_lt (ordering_then r (slice_cmp nat_cmp a (b ++ 0 ∷ [])))) (nat_cmp_total.antisymm x y ∙ ap ordering_reverse e)
      | Equal ↦ λ e g. ap (λ r. is_lt (ordering_then r (slice_cmp nat_cmp a (b ++ 0 ∷ [])))) (nat_cmp_total.antisymm x y ∙ ap ordering_reverse e) ∙ past_next b a g
      | Greater ↦ λ e g. absurd (cc)
    ] refl h

pub next_past : (b a : List ℕ) → is_below a (b ++ 0 ∷ []) ≡ false → is_below b a ≡ true
next_past [] [] h = absurd (cc)
next_past [] (x ∷ a) h = refl
next_past (y ∷ b) [] h = absurd (cc)
next_past (y ∷ b) (x ∷ a) h =
    elim (nat_cmp x y) as (λ r. nat_cmp x y ≡ r → is_lt (ordering_then r (slice_cmp nat_cmp a (b ++ 0 ∷ []))) ≡ false → is_below (y ∷ b) (x ∷ a) ≡ true) [
      | Less ↦ λ e g. absurd (cc)
      | Equal ↦ λ e g. ap (λ r. is_lt (ordering_then r (slice_cmp nat_cmp b a))) (nat_cmp_total.antisymm y x ∙ ap ordering_reverse e) ∙ next_past b a g
      | Greater ↦ λ e g. ap (λ r. is_lt (ordering_then r (slice_cmp nat_cmp b a))) (nat_cmp_total.antisymm y x ∙ ap ordering_reverse e)
    ] refl h

next_is : (b : ℕ) (bytes : List ℕ) → least_from (b ∷ bytes) ≡ (b ∷ bytes) ++ 0 ∷ []
next_is b bytes = grind (arith, common_steps)

-- what is above some bytes is from the least such string on
pub above_from : (bytes a : List ℕ) → is_below bytes a ≡ true → is_below a (least_from bytes) ≡ false
above_from [] a h = least_of_all a
above_from (b ∷ bytes) a h = ap (is_below a) (next_is b bytes) ∙ past_next (b ∷ bytes) a h

-- and the other way round, but for the string of no bytes
pub from_above : (bytes a : List ℕ) → (a ≡ [] → ⊥) → is_below a (least_from bytes) ≡ false → is_below bytes a ≡ true
from_above [] [] n h = absurd (n refl)
from_above [] (x ∷ a) n h = refl
from_above (b ∷ bytes) a n h = next_past (b ∷ bytes) a (ap (is_below a) (sym (next_is b bytes)) ∙ h)
