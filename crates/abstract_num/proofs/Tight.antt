-- Tightening keeps every number.
use Rattle.std.specs.Prelude.{Bool, ◌&&◌, option_and_then, suc, ◌-◌, ◌%◌, ℕ, ℤ, pos, negsuc, ◌<ℤ◌, ◌+ℤ◌, ◌≤ℤ◌, int_le, int_lt, nat_lt, nat_le, ◌==◌, ◌+◌, ◌^◌, ◌≡◌, ◌≤◌, ◌<◌, true, false, cond, Option, Some, None, IsSomeAnd, bit_and, bit_or}
use Rattle.std.specs.Int.{int_max, int_min, w32, cast_signed}
use Rattle.std.proofs.Common.{sym, ap, ◌∙◌, refl, arith, subst, eq-eqb}
use Rattle.std.proofs.lemmas.Bool.{lt-ltb, le-ltb, le-leb, ne_eqb}
use Rattle.std.proofs.lemmas.Int.{ints, clamps}
use Rattle.std.proofs.lemmas.Nat.{or_disjoint, and_le_r}
use Rattle.std.proofs.lemmas.Nat.Bits.{bit_at_and, bit_at_or, bit_at-lt, bit_at-zero, same_from_bits}
use Rattle.abstract_num.specs.Masks.{clear}
use Rattle.abstract_num.specs.proved.PartsFit.{bit_at_clear}
use Rattle.abstract_num.specs.proved.BitsRows.{clear_zero}
use Rattle.abstract_num.specs.proved.Cases.{cond_dec, cond_both, and_first, and_second, or_false}
use Rattle.abstract_num.specs.Signed.{signed, signed_half}
use Rattle.abstract_num.specs.Plain.{Plain, Number, Holds, Gives, Kept, constant}
pub use Rattle.abstract_num.specs.Keeping.{Fits}
use Rattle.abstract_num.specs.Tighten.{natural, less_all, plus_all, meet_signed, by_bits, by_unsigned, by_signed, agrees_with, with_number, by_constant, tighten_whole, is_short, meet_half, by_half, is_narrowed, is_empty, half_agrees, half_of_constant, tighten_again, tighten_halves, with_any_half, tighten}
use Rattle.abstract_num.specs.declared.precision.Precision.{Precision}
use Rattle.abstract_num.specs.declared.precision.Precision.TheVariants.{Whole, Halves}
use Rattle.abstract_num.specs.proved.HalfRows.{half_all_keeps}
use Rattle.abstract_num.specs.proved.Scaled.{high_half_is}

-- the code's answer keeps what the table's keeps
pub from_table : (t : Option Plain) (r : Option Number) (n : ℕ) → Gives t r → IsSomeAnd t (λ z. Holds z n) → Kept r n
from_table t None n g k = let h = subst (λ (o : Option Plain). IsSomeAnd o (λ z. Holds z n)) g k in h
from_table t (Some z) n g k = subst (λ (o : Option Plain). IsSomeAnd o (λ z. Holds z n)) g k

by_cases : {A : Type 0} (a n : ℕ) → (a ≤ n → A) → (n < a → A) → A
by_cases a n f g = cond_dec (nat_le a n) (λ e. f (grind arith)) (λ e. g (grind arith))

le_through : (a b c : ℤ) → a ≤ℤ b → b ≤ℤ c → a ≤ℤ c
le_through a b c p q = omega (arith, ints)

lt_through : (a b : ℤ) → b <ℤ pos 0 → a ≤ℤ b → a <ℤ pos 0
lt_through a b p q = omega (arith, ints)

up_by : (z : ℤ) (n : ℕ) → z ≤ℤ less_all n → (z +ℤ pos (2 ^ 64)) ≤ℤ pos n
up_by z n h = omega (arith, ints)

down_by : (z : ℤ) (n : ℕ) → less_all n ≤ℤ z → pos n ≤ℤ (z +ℤ pos (2 ^ 64))
down_by z n h = omega (arith, ints)

negative_high : (z : ℤ) (n : ℕ) → z ≡ less_all n → pos 0 ≤ℤ z → n < 2 ^ 64 → ⊥
negative_high z n e p q = omega (arith, ints)

positive_low : (z : ℤ) (n : ℕ) → z ≡ pos n → z <ℤ pos 0 → ⊥
positive_low z n e p = omega (arith, ints)

high_least : (p z : ℤ) (a n : ℕ) → z ≡ less_all n → p ≤ℤ z → a ≤ n → int_max p (less_all a) ≤ℤ z
high_least p z a n e h k = omega (arith, ints, clamps)

high_most : (q z : ℤ) (b n : ℕ) → z ≡ less_all n → z ≤ℤ q → n ≤ b → z ≤ℤ int_min q (less_all b)
high_most q z b n e h k = omega (arith, ints, clamps)

pub clear_and_rest : (n m : ℕ) → clear n m + bit_and n m ≡ n
clear_and_rest n m =
    let apart : bit_and (clear n m) (bit_and n m) ≡ 0 =
    same_from_bits (bit_and (clear n m) (bit_and n m)) 0
    (λ i. omega (arith, bit_at_and (clear n m) (bit_and n m) i, bit_at_clear n m i, bit_at_and n m i, bit_at-zero i, bit_at-lt n i, bit_at-lt m i)) in
    let whole : bit_or (clear n m) (bit_and n m) ≡ n =
    same_from_bits (bit_or (clear n m) (bit_and n m)) n
    (λ i. omega (arith, bit_at_or (clear n m) (bit_and n m) i, bit_at_clear n m i, bit_at_and n m i, bit_at-lt n i, bit_at-lt m i)) in
    sym (or_disjoint (clear n m) (bit_and n m) apart) ∙ whole

mask_sound : (x : Plain) (n : ℕ) → Holds x n → Holds (by_bits x) n
mask_sound x n h =
    let r = clear_and_rest n x.unknown in
    let s = and_le_r n x.unknown in
    let a : clear n x.unknown ≡ x.value = h.agrees in
    record { fits = h.fits; above = omega arith; below = omega arith; at_least = h.at_least; at_most = h.at_most; agrees = h.agrees; half_at_least = h.half_at_least; half_at_most = h.half_at_most }

pub signed_high : (n : ℕ) → 2 ^ 63 ≤ n → n < 2 ^ 64 → signed n ≡ less_all n
signed_high n p q =
    cond_both (λ z. z ≡ less_all n) (nat_lt n (2 ^ 63)) _ _ (λ e. absurd (grind arith)) (λ e. omega (arith, ints))

pub signed_low : (n : ℕ) → n < 2 ^ 63 → signed n ≡ pos n
signed_low n p = omega (arith, ints)

below_natural : (z : ℤ) (n : ℕ) → z ≤ℤ pos n → natural z ≤ n
below_natural (pos k) n h = omega (arith, ints)
below_natural (negsuc k) n h = omega arith

above_natural : (z : ℤ) (n : ℕ) → pos n ≤ℤ z → n ≤ natural z
above_natural (pos k) n h = omega (arith, ints)
above_natural (negsuc k) n h = omega (arith, ints)

-- of a range of one number, whose sign is s
pub agrees_if : (x : Plain) (s low high : ℤ) (bits l h : Bool) → s ≡ signed x.low → low ≡ x.least → high ≡ x.greatest → (clear x.low x.unknown == x.value) ≡ bits → int_le low s ≡ l → int_le s high ≡ h
    → agrees_with x x.low ≡ (bits && (l && h))
agrees_if x s low high bits l h es el eh b p q =
    let below : int_le x.least (signed x.low) ≡ l = subst (λ (z : ℤ). int_le x.least z ≡ l) es (subst (λ (z : ℤ). int_le z s ≡ l) el p) in
    let above : int_le (signed x.low) x.greatest ≡ h = subst (λ (z : ℤ). int_le z x.greatest ≡ h) es (subst (λ (z : ℤ). int_le s z ≡ h) eh q) in
    ap (λ (z : Bool). z && (int_le x.least (signed x.low) && int_le (signed x.low) x.greatest)) b ∙ ap (λ (z : Bool). bits && (z && int_le (signed x.low) x.greatest)) below ∙ ap (λ (z : Bool). bits && (l && z)) above

pub one_number : (x : Plain) (s low high : ℤ) → x.low ≡ x.high → s ≡ signed x.low → low ≡ x.least → high ≡ x.greatest → clear x.low x.unknown ≡ x.value → int_le low s ≡ true → int_le s high ≡ true
    → by_constant x ≡ Some (record { low = x.low; high = x.high; least = s; greatest = s; value = x.low; unknown = 0; half_least = x.half_least; half_greatest = x.half_greatest })
one_number x s low high e es el eh b p q =
    let found : by_constant x ≡ Some (with_number x x.low) = rw (eq-eqb x.low x.high e, agrees_if x s low high true true true es el eh (eq-eqb _ _ b) p q) in
    found ∙ ap (λ (z : ℤ). Some (record { low = x.low; high = x.low; least = z; greatest = z; value = x.low; unknown = 0; half_least = x.half_least; half_greatest = x.half_greatest })) (sym es)
    ∙ ap (λ (n : ℕ). Some (record { low = x.low; high = n; least = s; greatest = s; value = x.low; unknown = 0; half_least = x.half_least; half_greatest = x.half_greatest })) e

pub denied : (x : Plain) → x.low ≡ x.high → agrees_with x x.low ≡ false → by_constant x ≡ None
denied x e f = rw (eq-eqb x.low x.high e, f)

pub denied_by_bits : (x : Plain) → x.low ≡ x.high → (clear x.low x.unknown ≡ x.value → ⊥) → by_constant x ≡ None
denied_by_bits x e b = denied x e (ap (λ (z : Bool). z && (int_le x.least (signed x.low) && int_le (signed x.low) x.greatest)) (ne_eqb _ _ b))

-- Where the numbers of the unsigned range have one sign, its ends as signed numbers are those that
-- the signed range meets.
pub meets_low : (x : Plain) (p q : ℤ) → x.low ≤ x.high → x.high < 2 ^ 63 → p ≡ signed x.low → q ≡ signed x.high → by_unsigned x ≡ meet_signed x p q
meets_low x p q le lt e f =
    let met : by_unsigned x ≡ meet_signed x (pos x.low) (pos x.high) = rw (lt-ltb x.high (2 ^ 63) lt) in
    met ∙ ap (λ (z : ℤ). meet_signed x z (pos x.high)) (sym (e ∙ signed_low x.low (omega arith))) ∙ ap (λ (z : ℤ). meet_signed x p z) (sym (f ∙ signed_low x.high lt))

pub meets_high : (x : Plain) (p q : ℤ) → x.low ≤ x.high → x.high < 2 ^ 64 → 2 ^ 63 ≤ x.low → p ≡ signed x.low → q ≡ signed x.high → by_unsigned x ≡ meet_signed x p q
meets_high x p q le lt high e f =
    let beyond : 2 ^ 63 ≤ x.high = omega arith in
    let met : by_unsigned x ≡ meet_signed x (less_all x.low) (less_all x.high) = rw (le-ltb x.high (2 ^ 63) beyond, le-leb (2 ^ 63) x.low high) in
    met ∙ ap (λ (z : ℤ). meet_signed x z (less_all x.high)) (sym (e ∙ signed_high x.low high (omega arith))) ∙ ap (λ (z : ℤ). meet_signed x p z) (sym (f ∙ signed_high x.high beyond lt))

-- a range whose ends are those of the meet
pub met_signed : (x : Plain) (p q low high a b c d : ℤ) → low ≡ int_max a b → a ≡ x.least → b ≡ p → high ≡ int_min c d → c ≡ x.greatest → d ≡ q → record x { least = low; greatest = high } ≡ meet_signed x p q
met_signed x p q low high a b c d e ea eb f fc fd =
    let least : low ≡ int_max x.least p = e ∙ ap (λ (z : ℤ). int_max z b) ea ∙ ap (λ (z : ℤ). int_max x.least z) eb in
    let greatest : high ≡ int_min x.greatest q = f ∙ ap (λ (z : ℤ). int_min z d) fc ∙ ap (λ (z : ℤ). int_min x.greatest z) fd in
    ap (λ (z : ℤ). record x { least = z; greatest = high }) least ∙ ap (λ (z : ℤ). record x { least = int_max x.least p; greatest = z }) greatest

sign_sound : (x : Plain) (n : ℕ) → Holds x n → Holds (by_unsigned x) n
sign_sound x n h =
    cond_both (λ y. Holds y n) (nat_lt x.high (2 ^ 63)) _ _
    (λ e. let k : x.high < 2 ^ 63 = grind arith in
    record { fits = h.fits; above = h.above; below = h.below; agrees = h.agrees; half_at_least = h.half_at_least; half_at_most = h.half_at_most; at_least = omega (arith, ints, clamps, h.at_least, h.above, h.below); at_most = omega (arith, ints, clamps, h.at_most, h.above, h.below) })
    (λ e. cond_both (λ y. Holds y n) (nat_le (2 ^ 63) x.low) _ _
    (λ f. let k : 2 ^ 63 ≤ x.low = grind arith in
    let s : signed n ≡ less_all n = signed_high n (omega arith) h.fits in
    record { fits = h.fits; above = h.above; below = h.below; agrees = h.agrees; half_at_least = h.half_at_least; half_at_most = h.half_at_most; at_least = high_least x.least (signed n) x.low n s h.at_least h.above; at_most = high_most x.greatest (signed n) x.high n s h.at_most h.below })
    (λ f. h))

pub sign_of : (n : ℕ) → pos 0 ≤ℤ signed n → n < 2 ^ 64 → n < 2 ^ 63
sign_of n p q =
    by_cases (2 ^ 63) n (λ l. let s : signed n ≡ less_all n = signed_high n l q in absurd (negative_high (signed n) n s p q)) (λ l. l)

pub sign_below : (n : ℕ) → signed n <ℤ pos 0 → n < 2 ^ 64 → 2 ^ 63 ≤ n
sign_below n p q =
    by_cases (2 ^ 63) n (λ l. l) (λ l. let s : signed n ≡ pos n = signed_low n l in absurd (positive_low (signed n) n s p))

range_sound : (x : Plain) (n : ℕ) → Holds x n → Holds (by_signed x) n
range_sound x n h =
    cond_both (λ y. Holds y n) (int_le (pos 0) x.least) _ _
    (λ e. let k : pos 0 ≤ℤ x.least = grind (arith, ints) in
    let l : n < 2 ^ 63 = sign_of n (le_through (pos 0) x.least (signed n) k h.at_least) h.fits in
    let s : signed n ≡ pos n = signed_low n l in
    let a : natural x.least ≤ n = below_natural x.least n (rw s at h.at_least) in
    let b : n ≤ natural x.greatest = above_natural x.greatest n (rw s at h.at_most) in
    record { fits = h.fits; above = omega (arith, h.above); below = omega (arith, h.below); agrees = h.agrees; at_least = h.at_least; at_most = h.at_most; half_at_least = h.half_at_least; half_at_most = h.half_at_most })
    (λ e. cond_both (λ y. Holds y n) (int_lt x.greatest (pos 0)) _ _
    (λ f. let k : x.greatest <ℤ pos 0 = grind (arith, ints) in
    let l : 2 ^ 63 ≤ n = sign_below n (lt_through (signed n) x.greatest k h.at_most) h.fits in
    let s : signed n ≡ less_all n = signed_high n l h.fits in
    let a : plus_all x.least ≤ n = below_natural (x.least +ℤ pos (2 ^ 64)) n (up_by x.least n (rw s at h.at_least)) in
    let b : n ≤ plus_all x.greatest = above_natural (x.greatest +ℤ pos (2 ^ 64)) n (down_by x.greatest n (rw s at h.at_most)) in
    record { fits = h.fits; above = omega (arith, h.above); below = omega (arith, h.below); agrees = h.agrees; at_least = h.at_least; at_most = h.at_most; half_at_least = h.half_at_least; half_at_most = h.half_at_most })
    (λ f. h))

crossed : (x : Plain) (n : ℕ) → Holds x n → nat_lt x.high x.low ≡ true → ⊥
crossed x n h e = grind arith

crossed_signs : (x : Plain) (n : ℕ) → Holds x n → int_lt x.greatest x.least ≡ true → ⊥
crossed_signs x n h e =
    let a = h.at_least in
    let b = h.at_most in grind (arith, ints)

agrees_sound : (x : Plain) (n : ℕ) → Holds x n → agrees_with x n ≡ false → ⊥
agrees_sound x n h e =
    let a = h.at_least in
    let b = h.at_most in
    let d : clear n x.unknown ≡ x.value = h.agrees in grind (arith, ints)

constant_holds : (n : ℕ) → n < 2 ^ 64 → Holds (constant n) n
constant_holds n q = record { fits = q; above = omega arith; below = omega arith; at_least = omega (arith, ints); at_most = omega (arith, ints); agrees = clear_zero n; half_at_least = omega (arith, ints); half_at_most = omega (arith, ints) }

number_holds : (x : Plain) (n : ℕ) → Holds x n → Holds (with_number x n) n
number_holds x n h =
    let c = constant_holds n h.fits in
    record { fits = h.fits; above = c.above; below = c.below; at_least = c.at_least; at_most = c.at_most; agrees = c.agrees; half_at_least = h.half_at_least; half_at_most = h.half_at_most }

abbrev Left : ℕ → Option Plain → Type 0
Left n o = IsSomeAnd o (λ y. Holds y n)

settle_sound : (x : Plain) (n : ℕ) → Holds x n → Left n (by_constant x)
settle_sound x n h =
    cond_both (Left n) (x.low == x.high) _ _
    (λ e. let s : n ≡ x.low = grind (arith, h.above, h.below) in
    subst (λ (k : ℕ). Left n (cond (agrees_with x k) (Some (with_number x k)) None)) s
    (cond_both (Left n) (agrees_with x n) (Some (with_number x n)) None (λ f. number_holds x n h) (λ f. agrees_sound x n h f)))
    (λ e. h)

whole_sound : (x : Plain) (n : ℕ) → Holds x n → Left n (tighten_whole x)
unfolding tighten_whole
whole_sound x n h =
    let y = by_bits x in
    let z = by_unsigned y in
    let w = by_signed z in
    let hy : Holds y n = mask_sound x n h in
    let hz : Holds z n = sign_sound y n hy in
    let hw : Holds w n = range_sound z n hz in
    cond_both (Left n) (nat_lt y.high y.low) _ _ (λ e. absurd (crossed y n hy e))
    (λ e. cond_both (Left n) (int_lt z.greatest z.least) _ _ (λ e. absurd (crossed_signs z n hz e))
    (λ e. cond_both (Left n) (nat_lt w.high w.low) _ _ (λ e. absurd (crossed w n hw e))
    (λ e. settle_sound w n hw)))

-- of a number below 2 ^ 31
low_half_is : (n : ℕ) → n < 2 ^ 31 → signed_half n ≡ pos n
low_half_is n h = let e : n % 2 ^ 32 ≡ n = omega arith in ap (λ k. cast_signed w32 k) e ∙ omega (arith, ints)

-- a number in 32 signed bits is its own half
pub short_half : (n : ℕ) → n < 2 ^ 64 → negsuc (2 ^ 31 - 1) ≤ℤ signed n → signed n <ℤ pos (2 ^ 31) → signed n ≡ signed_half n
short_half n f a b =
    by_cases (2 ^ 63) n
    (λ l. let s : signed n ≡ less_all n = signed_high n l f in
    let far : 2 ^ 64 ≤ n + 2 ^ 31 = omega (arith, ints) in
    let rest : n % 2 ^ 32 ≡ n - (2 ^ 64 - 2 ^ 32) = omega arith in
    let low : signed_half n ≡ negsuc (2 ^ 32 - suc (n - (2 ^ 64 - 2 ^ 32))) = ap (λ k. cast_signed w32 k) rest ∙ high_half_is (n - (2 ^ 64 - 2 ^ 32)) (omega arith) in
    s ∙ omega (arith, ints) ∙ sym low)
    (λ l. let s : signed n ≡ pos n = signed_low n l in
    let near : n < 2 ^ 31 = omega (arith, ints) in s ∙ sym (low_half_is n near))

-- a number of 32 bits whose half isn't negative
pub half_positive : (n : ℕ) → n < 2 ^ 32 → pos 0 ≤ℤ signed_half n → signed_half n ≡ pos n
half_positive n p q =
    by_cases (2 ^ 31) n
    (λ l. let e : n % 2 ^ 32 ≡ n = omega arith in
    let s : signed_half n ≡ negsuc (2 ^ 32 - suc n) = ap (λ k. cast_signed w32 k) e ∙ high_half_is n l in absurd (omega (arith, ints)))
    (λ l. low_half_is n l)

lt_above : (a b c : ℤ) → a ≤ℤ b → b <ℤ c → a <ℤ c
lt_above a b c p q = omega (arith, ints)

int_le_is : (a b : ℤ) → int_le a b ≡ true → a ≤ℤ b
int_le_is a b e = grind (arith, ints)

int_lt_is : (a b : ℤ) → int_lt a b ≡ true → a <ℤ b
int_lt_is a b e = grind (arith, ints)

most : (p q z : ℤ) → p ≤ℤ z → q ≤ℤ z → int_max p q ≤ℤ z
most p q z a b = omega (arith, ints, clamps)

least : (p q z : ℤ) → z ≤ℤ p → z ≤ℤ q → z ≤ℤ int_min p q
least p q z a b = omega (arith, ints, clamps)

meet_half_sound : (x : Plain) (n : ℕ) → Holds x n → signed n ≡ signed_half n → Holds (meet_half x) n
meet_half_sound x n h e =
    record {
      fits = h.fits;
      above = h.above;
      below = h.below;
      agrees = h.agrees;
      at_least = most x.least x.half_least (signed n) h.at_least (rw e h.half_at_least);
      at_most = least x.greatest x.half_greatest (signed n) h.at_most (rw e h.half_at_most);
      half_at_least = most x.least x.half_least (signed_half n) (rw (sym e) h.at_least) h.half_at_least;
      half_at_most = least x.greatest x.half_greatest (signed_half n) (rw (sym e) h.at_most) h.half_at_most;
    }

half_sound : (x : Plain) (n : ℕ) → Holds x n → Holds (by_half x) n
half_sound x n h =
    cond_both (λ y. Holds y n) (is_short x) _ _
    (λ e. meet_half_sound x n h
    (short_half n h.fits (le_through _ _ _ (int_le_is _ _ (and_first _ _ e)) h.at_least) (lt_above _ _ _ h.at_most (int_lt_is _ _ (and_second _ _ e)))))
    (λ _. cond_both (λ y. Holds y n) (nat_lt x.high (2 ^ 32) && int_le (pos 0) x.half_least) _ _
    (λ e. let k = and_first (nat_lt x.high (2 ^ 32)) (int_le (pos 0) x.half_least) e in
    let l : n < 2 ^ 32 = grind (arith, h.below) in
    let s : signed_half n ≡ pos n = half_positive n l (le_through _ _ _ (int_le_is _ _ (and_second (nat_lt x.high (2 ^ 32)) (int_le (pos 0) x.half_least) e)) h.half_at_least) in
    let a : natural x.half_least ≤ n = below_natural x.half_least n (rw s at h.half_at_least) in
    let b : n ≤ natural x.half_greatest = above_natural x.half_greatest n (rw s at h.half_at_most) in
    record { fits = h.fits; above = omega (arith, h.above); below = omega (arith, h.below); agrees = h.agrees; at_least = h.at_least; at_most = h.at_most; half_at_least = h.half_at_least; half_at_most = h.half_at_most })
    (λ _. h))

not_above : (a b n : ℕ) → a ≤ n → n ≤ b → nat_lt b a ≡ false
not_above a b n p q = grind arith

not_above_z : (a b z : ℤ) → a ≤ℤ z → z ≤ℤ b → int_lt b a ≡ false
not_above_z a b z p q = grind (arith, ints)

-- a number that holds one isn't empty
not_empty : (x : Plain) (n : ℕ) → Holds x n → is_empty x ≡ false
not_empty x n h = or_false _ _ (not_above x.low x.high n h.above h.below) (not_above_z x.least x.greatest (signed n) h.at_least h.at_most)

again_sound : (x y : Plain) (n : ℕ) → Holds y n → Left n (tighten_again x y)
again_sound x y n h =
    subst (λ (b : Bool). Left n (cond b None (cond (is_narrowed x y) (tighten_whole y) (Some y)))) (sym (not_empty y n h))
    (cond_both (Left n) (is_narrowed x y) (tighten_whole y) (Some y) (λ _. whole_sound y n h) (λ _. h))

abbrev with_half : Plain → ℕ → Plain
with_half x n = record x { half_least = signed_half n; half_greatest = signed_half n }

with_half_holds : (x : Plain) (n : ℕ) → Holds x n → Holds (with_half x n) n
with_half_holds x n h =
    let c = constant_holds n h.fits in
    record { fits = h.fits; above = h.above; below = h.below; at_least = h.at_least; at_most = h.at_most; agrees = h.agrees; half_at_least = c.half_at_least; half_at_most = c.half_at_most }

half_disagrees : (x : Plain) (n : ℕ) → Holds x n → half_agrees x n ≡ false → ⊥
half_disagrees x n h e =
    let a = h.half_at_least in
    let b = h.half_at_most in grind (arith, ints)

half_of_constant_sound : (x : Plain) (n : ℕ) → Holds x n → Left n (half_of_constant x)
half_of_constant_sound x n h =
    cond_both (Left n) (x.low == x.high) _ _
    (λ e. let s : n ≡ x.low = grind (arith, h.above, h.below) in
    subst (λ (k : ℕ). Left n (cond (half_agrees x k) (Some (with_half x k)) None)) s
    (cond_both (Left n) (half_agrees x n) (Some (with_half x n)) None (λ f. with_half_holds x n h) (λ f. half_disagrees x n h f)))
    (λ e. h)

-- what holds of a number that is left holds of what is made of it
pub then_sound : (o : Option Plain) (k : Plain → Option Plain) (m n : ℕ) → Left m o → ((a : Plain) → Holds a m → Left n (k a)) → Left n (option_and_then k o)
then_sound None k m n h f = h
then_sound (Some a) k m n h f = f a h

halves_sound : (x : Plain) (n : ℕ) → Holds x n → Left n (tighten_halves x)
halves_sound x n h =
    then_sound (option_and_then (λ y. tighten_again y (by_half y)) (tighten_whole x)) half_of_constant n n
    (then_sound (tighten_whole x) (λ y. tighten_again y (by_half y)) n n (whole_sound x n h) (λ y i. again_sound y (by_half y) n (half_sound y n i)))
    (λ z i. half_of_constant_sound z n i)

pub any_half_holds : (x : Plain) (n : ℕ) → Holds x n → Holds (with_any_half x) n
any_half_holds x n h =
    let k = half_all_keeps n in
    record { fits = h.fits; above = h.above; below = h.below; at_least = h.at_least; at_most = h.at_most; agrees = h.agrees; half_at_least = k.0; half_at_most = k.1 }

pub tighten_sound : (precision : Precision) (x : Plain) (n : ℕ) → Holds x n → IsSomeAnd (tighten precision x) (λ y. Holds y n)
tighten_sound Whole x n h = whole_sound (with_any_half x) n (any_half_holds x n h)
tighten_sound Halves x n h = halves_sound x n h

-- a number whose numbers are below 2 ^ 64 stays so
record Shrinks (x z : Plain) : Type 0 where
  high : z.high ≤ x.high
  unknown : z.unknown ≡ x.unknown

shrinks_same : (x : Plain) → Shrinks x x
shrinks_same x = record { high = omega arith; unknown = refl }

bits_shrink : (x : Plain) → Shrinks x (by_bits x)
bits_shrink x = record { high = omega arith; unknown = refl }

unsigned_shrinks : (x : Plain) → Shrinks x (by_unsigned x)
unsigned_shrinks x =
    cond_both (λ z. Shrinks x z) (nat_lt x.high (2 ^ 63)) _ _
    (λ _. record { high = omega arith; unknown = refl })
    (λ _. cond_both (λ z. Shrinks x z) (nat_le (2 ^ 63) x.low) _ _ (λ _. record { high = omega arith; unknown = refl }) (λ _. shrinks_same x))

signed_shrinks : (x : Plain) → Shrinks x (by_signed x)
signed_shrinks x =
    cond_both (λ z. Shrinks x z) (int_le (pos 0) x.least) _ _
    (λ _. record { high = omega arith; unknown = refl })
    (λ _. cond_both (λ z. Shrinks x z) (int_lt x.greatest (pos 0)) _ _ (λ _. record { high = omega arith; unknown = refl }) (λ _. shrinks_same x))

fits_on : (x z : Plain) → Fits x → Shrinks x z → Fits z
fits_on x z f s = record { high = omega (arith, f.high, s.high); unknown = omega (arith, f.unknown, s.unknown) }

-- of what is left
abbrev pub AllFit : Option Plain → Type 0
AllFit None = Unit {0}
AllFit (Some z) = Fits z

constant_fits : (x : Plain) → Fits x → AllFit (by_constant x)
constant_fits x f =
    cond_both AllFit (x.low == x.high) _ _
    (λ e. cond_both AllFit (agrees_with x x.low) _ _ (λ _. record { high = grind (arith, f.high); unknown = omega arith }) (λ _. tt))
    (λ _. f)

whole_fits : (x : Plain) → Fits x → AllFit (tighten_whole x)
unfolding tighten_whole
whole_fits x f =
    let y = by_bits x in
    let z = by_unsigned y in
    let w = by_signed z in
    let g = fits_on z w (fits_on y z (fits_on x y f (bits_shrink x)) (unsigned_shrinks y)) (signed_shrinks z) in
    cond_both AllFit (nat_lt y.high y.low) _ _ (λ _. tt)
    (λ _. cond_both AllFit (int_lt z.greatest z.least) _ _ (λ _. tt)
    (λ _. cond_both AllFit (nat_lt w.high w.low) _ _ (λ _. tt) (λ _. constant_fits w g)))

half_shrinks : (x : Plain) → Shrinks x (by_half x)
half_shrinks x =
    cond_both (λ z. Shrinks x z) (is_short x) _ _
    (λ _. record { high = omega arith; unknown = refl })
    (λ _. cond_both (λ z. Shrinks x z) (nat_lt x.high (2 ^ 32) && int_le (pos 0) x.half_least) _ _ (λ _. record { high = omega arith; unknown = refl }) (λ _. shrinks_same x))

again_fits : (x y : Plain) → Fits y → AllFit (tighten_again x y)
again_fits x y f =
    cond_both AllFit (is_empty y) _ _ (λ _. tt) (λ _. cond_both AllFit (is_narrowed x y) _ _ (λ _. whole_fits y f) (λ _. f))

half_of_constant_fits : (x : Plain) → Fits x → AllFit (half_of_constant x)
half_of_constant_fits x f =
    cond_both AllFit (x.low == x.high) _ _
    (λ _. cond_both AllFit (half_agrees x x.low) _ _ (λ _. record { high = f.high; unknown = f.unknown }) (λ _. tt))
    (λ _. f)

then_fits : (o : Option Plain) (k : Plain → Option Plain) → AllFit o → ((a : Plain) → Fits a → AllFit (k a)) → AllFit (option_and_then k o)
then_fits None k h f = tt
then_fits (Some a) k h f = f a h

pub tighten_fits : (precision : Precision) (x : Plain) → Fits x → AllFit (tighten precision x)
tighten_fits Whole x f = whole_fits (with_any_half x) (record { high = f.high; unknown = f.unknown })
tighten_fits Halves x f =
    then_fits (option_and_then (λ y. tighten_again y (by_half y)) (tighten_whole x)) half_of_constant
    (then_fits (tighten_whole x) (λ y. tighten_again y (by_half y)) (whole_fits x f) (λ y g. again_fits y (by_half y) (fits_on y (by_half y) g (half_shrinks y))))
    (λ z g. half_of_constant_fits z g)
