-- How the half meets the unsigned range.
use Rattle.std.specs.Prelude.{ℕ, ℤ, pos, negsuc, ◌≤ℤ◌, int_le, nat_lt, ◌<◌, ◌^◌, ◌≡◌, min, max, true, false, Option, Some, None, MatchOption}
use Rattle.std.specs.Int.{w32, cast_unsigned}
use Rattle.std.proofs.Common.{sym, subst, ◌∙◌, refl, arith}
use mathlib.Core.Path.{ap₂}
use Rattle.std.proofs.lemmas.Bool.{lt-ltb}
use Rattle.std.proofs.lemmas.Int.{ints}
use Rattle.abstract_num.specs.proved.Cases.{or_true}
use Rattle.abstract_num.specs.Plain.{Plain, Number, view}
use Rattle.abstract_num.specs.Tighten.{natural, meet_unsigned, is_short, is_empty, by_half}

-- a number that isn't negative, cast
pub unsigned_of : (z : ℤ) → pos 0 ≤ℤ z → cast_unsigned w32 z ≡ natural z
unsigned_of (pos n) h = refl
unsigned_of (negsuc n) h = absurd (omega (arith, ints))

int_le_yes : (a b : ℤ) → a ≤ℤ b → int_le a b ≡ true
int_le_yes a b h = grind (arith, ints)

nat_lt_yes : (a b : ℕ) → a < b → nat_lt a b ≡ true
nat_lt_yes a b h = grind arith

meets : (x : Plain) (a b : ℕ) → is_short x ≡ false → x.high < 2 ^ 32 → pos 0 ≤ℤ x.half_least → a ≡ natural x.half_least → b ≡ natural x.half_greatest → by_half x ≡ meet_unsigned x a b
meets x a b s l p e f =
    let first : by_half x ≡ meet_unsigned x (natural x.half_least) (natural x.half_greatest) = rw (s, lt-ltb x.high (2 ^ 32) l, int_le_yes (pos 0) x.half_least p) refl in
    first ∙ ap₂ (λ u v. meet_unsigned x u v) (sym e) (sym f)

crossed : (x : Plain) → x.high < x.low → is_empty x ≡ true
crossed x h = or_true _ _ (nat_lt_yes x.high x.low h)

met : (x : Plain) (r : Option Number) → MatchOption r (x.high < x.low) (λ z. view z ≡ x) → MatchOption r (is_empty x ≡ true) (λ z. view z ≡ x)
met x None h = crossed x h
met x (Some z) h = h

pub half_meets : (x : Plain) (r : Option Number) (a b : ℕ) → is_short x ≡ false → x.high < 2 ^ 32 → pos 0 ≤ℤ x.half_least → a ≡ natural x.half_least → b ≡ natural x.half_greatest
    → MatchOption r (min x.high b < max x.low a) (λ z. view z ≡ meet_unsigned x a b) → MatchOption r (is_empty (by_half x) ≡ true) (λ z. view z ≡ by_half x)
half_meets x r a b s l p e f h =
    subst (λ (y : Plain). MatchOption r (is_empty y ≡ true) (λ z. view z ≡ y)) (sym (meets x a b s l p e f)) (met (meet_unsigned x a b) r h)
