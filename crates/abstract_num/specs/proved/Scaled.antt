-- Proved; nothing here need be believed.
-- Signed numbers times a power of two, and divided by it.
use Rattle.std.specs.Prelude.{ℕ, ℤ, pos, negsuc, zero, suc, ◌*ℤ◌, ◌≤ℤ◌, FitsSigned, ◌+◌, ◌-◌, ◌*◌, ◌/◌, ◌%◌, ◌^◌, ◌≡◌}
use Rattle.std.specs.Prelude.{◌<◌, ◌≤◌, nat_le, nat_lt, Option, Some, None}
use Rattle.std.specs.Option.{SomeIff}
use Rattle.std.specs.Int.{w8, w16, w32, w64, cast_signed, int_shr}
use Rattle.std.specs.Int.Signed.{mag, mag_shr}
use lib.Signed.{shr_z}
use Rattle.std.proofs.Common.{sym, ap, subst, ◌∙◌, refl, zero-le, arith}
use Rattle.std.proofs.Math.IntN.{neg_ℤ}
use Rattle.std.proofs.Math.Facts.{sfits_to_z}
use Rattle.std.proofs.Math.Nat.{add-mul, suc-mul, mul_assoc, mul-pos, le-mul_of_pos_right, div-mul-le_self}
use Rattle.std.proofs.lemmas.Nat.{mul-le, le-div, pow_pos, pow-add, div-mul-add}
use Rattle.std.proofs.lemmas.Int.{ints}
use Rattle.abstract_num.specs.proved.Cases.{cond_dec, cond_both}
use Rattle.abstract_num.specs.Signed.{signed, signed_half}

below_or_not : {A : Type 0} (a n : ℕ) → (n < a → A) → (a ≤ n → A) → A
below_or_not a n f g = cond_dec (nat_le a n) (λ e. g (grind arith)) (λ e. f (grind arith))

neg_pos : (u : ℕ) → 0 < u → neg_ℤ (pos u) ≡ negsuc (u - 1)
neg_pos zero h = absurd (omega arith)
neg_pos (suc n) h = let e : n ≡ suc n - 1 = omega arith in ap (λ k. negsuc k) e

neg_below : (k n : ℕ) → neg_ℤ (pos k) ≤ℤ pos n
neg_below zero n = omega (arith, ints)
neg_below (suc k) n = omega (arith, ints)

neg_mono : (k n : ℕ) → n ≤ k → neg_ℤ (pos k) ≤ℤ neg_ℤ (pos n)
neg_mono zero zero h = omega (arith, ints)
neg_mono zero (suc n) h = absurd (omega arith)
neg_mono (suc k) zero h = omega (arith, ints)
neg_mono (suc k) (suc n) h = omega (arith, ints)

times_nat : (t a b : ℕ) → a ≤ b → a * t ≤ b * t
times_nat t a b h = let s : t ≤ t = omega arith in mul-le a t b t h s

-- a product keeps the order
pub times_mono : (t : ℕ) (p z : ℤ) → p ≤ℤ z → (p *ℤ pos t) ≤ℤ (z *ℤ pos t)
times_mono t (pos a) (pos b) h =
    let l : a ≤ b = omega (arith, ints) in
    let k : a * t ≤ b * t = times_nat t a b l in omega (arith, ints)
times_mono t (pos a) (negsuc b) h = absurd (omega (arith, ints))
times_mono t (negsuc a) (pos b) h = neg_below (suc a * t) (b * t)
times_mono t (negsuc a) (negsuc b) h =
    let l : suc b ≤ suc a = omega (arith, ints) in neg_mono (suc a * t) (suc b * t) (times_nat t (suc b) (suc a) l)

div_nat : (t a b : ℕ) → 0 < t → a ≤ b → a / t ≤ b / t
div_nat t a b p h = le-div (a / t) b t p (omega (arith, div-mul-le_self a t))

-- a quotient rounded down keeps the order
pub shr_mono : (t : ℕ) (p z : ℤ) → 0 < t → p ≤ℤ z → shr_z p t ≤ℤ shr_z z t
shr_mono t (pos a) (pos b) p h =
    let l : a ≤ b = omega (arith, ints) in
    let k : a / t ≤ b / t = div_nat t a b p l in omega (arith, ints)
shr_mono t (pos a) (negsuc b) p h = absurd (omega (arith, ints))
shr_mono t (negsuc a) (pos b) p h = omega (arith, ints)
shr_mono t (negsuc a) (negsuc b) p h =
    let l : b ≤ a = omega (arith, ints) in
    let k : b / t ≤ a / t = div_nat t b a p l in omega (arith, ints)

-- a quotient fits if the number does
pub shr_fits : (t : ℕ) (z : ℤ) → FitsSigned w64 z → FitsSigned w64 (shr_z z t)
shr_fits t z f = record { sfits = omega (arith, mag_shr z t, f.sfits) }

pub shifted_fits : (k m : ℕ) → m < 2 ^ 64 → FitsSigned w64 (int_shr (signed m) k)
shifted_fits k m h =
    let a = mag_shr (signed m) (2 ^ k) in
    let b : mag (signed m) < 2 ^ 63 = (sfits_to_z {w = w64} {n = m} (record { fits = h })).sfits in
    record { sfits = omega arith }

-- numbers from the middle on are negative
high_is : (m : ℕ) → 2 ^ 63 ≤ m → signed m ≡ negsuc (2 ^ 64 - suc m)
high_is m h =
    cond_both (λ z. z ≡ negsuc (2 ^ 64 - suc m)) (nat_lt m (2 ^ 63)) _ _ (λ e. absurd (grind arith)) (λ e. refl)

pub high_half_is : (l : ℕ) → 2 ^ 31 ≤ l → cast_signed w32 l ≡ negsuc (2 ^ 32 - suc l)
high_half_is l h =
    cond_both (λ z. z ≡ negsuc (2 ^ 32 - suc l)) (nat_lt l (2 ^ 31)) _ _ (λ e. absurd (grind arith)) (λ e. refl)

product_low : (v : ℕ) → v < 2 ^ 63 → signed (v % 2 ^ 64) ≡ pos v
product_low v h = let e : v % 2 ^ 64 ≡ v = omega arith in ap (λ k. signed k) e ∙ omega (arith, ints)

-- u is how far v lies below a multiple of 2 ^ 64
rest_high : (v t u : ℕ) → 0 < u → u ≤ 2 ^ 63 → v + u ≡ 2 ^ 64 * t → v % 2 ^ 64 ≡ 2 ^ 64 - u
rest_high v t u b c e = omega arith

high_signed : (u : ℕ) → 0 < u → u ≤ 2 ^ 63 → signed (2 ^ 64 - u) ≡ negsuc (u - 1)
high_signed u b c = let e : 2 ^ 64 - suc (2 ^ 64 - u) ≡ u - 1 =
    omega arith in high_is (2 ^ 64 - u) (omega arith) ∙ ap (λ k. negsuc k) e

wrapped_high : (v t u : ℕ) → 0 < u → u ≤ 2 ^ 63 → v + u ≡ 2 ^ 64 * t → signed (v % 2 ^ 64) ≡ negsuc (u - 1)
wrapped_high v t u b c e = ap (λ k. signed k) (rest_high v t u b c e) ∙ high_signed u b c

with_rest : (m t : ℕ) → m < 2 ^ 64 → m * t + (2 ^ 64 - m) * t ≡ 2 ^ 64 * t
with_rest m t h = let e : m + (2 ^ 64 - m) ≡ 2 ^ 64 = omega arith in sym (add-mul m (2 ^ 64 - m) t) ∙ ap (λ x. x * t) e

positive : (m t : ℕ) → m < 2 ^ 63 → FitsSigned w64 (signed m *ℤ pos t) → signed (m * t % 2 ^ 64) ≡ signed m *ℤ pos t
positive m t l f =
    let s : signed m ≡ pos m = omega (arith, ints) in
    let g : FitsSigned w64 (pos m *ℤ pos t) = subst (λ (z : ℤ). FitsSigned w64 (z *ℤ pos t)) s f in
    product_low (m * t) g.sfits ∙ sym (ap (λ (z : ℤ). z *ℤ pos t) s)

negative : (m t : ℕ) → 0 < t → m < 2 ^ 64 → 2 ^ 63 ≤ m → FitsSigned w64 (signed m *ℤ pos t) →
    signed (m * t % 2 ^ 64) ≡ signed m *ℤ pos t
negative m t a b l f =
    let u = (2 ^ 64 - m) * t in
    let up : 0 < u = mul-pos {m = 2 ^ 64 - m} {n = t} (omega arith) a in
    let s : signed m ≡ negsuc (2 ^ 64 - suc m) = high_is m l in
    let k : suc (2 ^ 64 - suc m) ≡ 2 ^ 64 - m = omega arith in
    let e : signed m *ℤ pos t ≡ negsuc (u - 1) =
    ap (λ (z : ℤ). z *ℤ pos t) s ∙ ap (λ (n : ℕ). neg_ℤ (pos (n * t))) k ∙ neg_pos u up in
    let g : FitsSigned w64 (negsuc (u - 1)) = subst (λ (z : ℤ). FitsSigned w64 z) e f in
    let c : u ≤ 2 ^ 63 = omega (arith, g.sfits) in
    wrapped_high (m * t) t u up c (with_rest m t b) ∙ sym e

-- a product that fits doesn't wrap
pub signed_times : (m t : ℕ) → 0 < t → m < 2 ^ 64 → FitsSigned w64 (signed m *ℤ pos t) →
    signed (m * t % 2 ^ 64) ≡ signed m *ℤ pos t
signed_times m t a b f = below_or_not (2 ^ 63) m (λ l. positive m t l f) (λ l. negative m t a b l f)

raised_rest : (m : ℕ) → m * 2 ^ 32 % 2 ^ 64 ≡ m % 2 ^ 32 * 2 ^ 32
raised_rest m = omega arith

raised_low : (l : ℕ) → l < 2 ^ 31 → signed (l * 2 ^ 32) ≡ cast_signed w32 l *ℤ pos (2 ^ 32)
raised_low l h =
    let s : cast_signed w32 l ≡ pos l = omega (arith, ints) in
    let e : signed (l * 2 ^ 32) ≡ pos (l * 2 ^ 32) = omega (arith, ints) in
    e ∙ sym (ap (λ (z : ℤ). z *ℤ pos (2 ^ 32)) s)

raised_high : (l : ℕ) → 2 ^ 31 ≤ l → l < 2 ^ 32 → signed (l * 2 ^ 32) ≡ cast_signed w32 l *ℤ pos (2 ^ 32)
raised_high l h b =
    let u = (2 ^ 32 - l) * 2 ^ 32 in
    let s : cast_signed w32 l ≡ negsuc (2 ^ 32 - suc l) = high_half_is l h in
    let k : suc (2 ^ 32 - suc l) ≡ 2 ^ 32 - l = omega arith in
    let r : 2 ^ 64 - suc (l * 2 ^ 32) ≡ u - 1 = omega arith in
    high_is (l * 2 ^ 32) (omega arith) ∙ ap (λ k. negsuc k) r ∙ sym
    (ap (λ (z : ℤ). z *ℤ pos (2 ^ 32)) s ∙ ap (λ (n : ℕ). neg_ℤ (pos (n * 2 ^ 32))) k ∙ neg_pos u (omega arith))

-- times 2 ^ 32, a number is its low half times that
pub raised_is : (m : ℕ) → signed (m * 2 ^ 32 % 2 ^ 64) ≡ signed_half m *ℤ pos (2 ^ 32)
raised_is m =
    let l = m % 2 ^ 32 in
    ap (λ k. signed k) (raised_rest m)
    ∙ below_or_not (2 ^ 31) l (λ h. raised_low l h) (λ h. raised_high l h (omega arith))

-- by two powers, one after another
neg_times : (u t : ℕ) → neg_ℤ (pos u) *ℤ pos t ≡ neg_ℤ (pos (u * t))
neg_times zero t = let e : 0 * t ≡ 0 = omega arith in ap (λ k. pos k) e ∙ sym (ap (λ k. neg_ℤ (pos k)) e)
neg_times (suc u) t = refl

times_twice : (z : ℤ) (s t : ℕ) → z *ℤ pos s *ℤ pos t ≡ z *ℤ pos (s * t)
times_twice (pos m) s t = ap (λ k. pos k) (mul_assoc m s t)
times_twice (negsuc m) s t = neg_times (suc m * s) t ∙ ap (λ k. neg_ℤ (pos k)) (mul_assoc (suc m) s t)

scaled_twice : (z : ℤ) (a b k : ℕ) → a + b ≡ k → z *ℤ pos (2 ^ a) *ℤ pos (2 ^ b) ≡ z *ℤ pos (2 ^ k)
scaled_twice z a b k e = times_twice z (2 ^ a) (2 ^ b) ∙ ap (λ n. z *ℤ pos n) (sym (pow-add 2 a b) ∙ ap (λ n. 2 ^ n) e)

mag_neg_mono : (u v : ℕ) → u ≤ v → mag (neg_ℤ (pos u)) ≤ mag (neg_ℤ (pos v))
mag_neg_mono zero v h = zero-le
mag_neg_mono (suc u) zero h = absurd (omega arith)
mag_neg_mono (suc u) (suc v) h = omega arith

more : (m s t : ℕ) → 0 < t → m * s ≤ m * (s * t)
more m s t h = let a : s ≤ s * t = le-mul_of_pos_right s h in let b : m ≤ m = omega arith in mul-le m s m (s * t) b a

mag_more : (z : ℤ) (s t : ℕ) → 0 < t → mag (z *ℤ pos s) ≤ mag (z *ℤ pos (s * t))
mag_more (pos m) s t h = more m s t h
mag_more (negsuc m) s t h = mag_neg_mono (suc m * s) (suc m * (s * t)) (more (suc m) s t h)

-- what fits, fits halfway
fits_halfway : (z : ℤ) (a b k : ℕ) → a + b ≡ k → FitsSigned w64 (z *ℤ pos (2 ^ k)) → FitsSigned w64 (z *ℤ pos (2 ^ a))
fits_halfway z a b k e f =
    let same : 2 ^ k ≡ 2 ^ a * 2 ^ b = sym (ap (λ n. 2 ^ n) e) ∙ pow-add 2 a b in
    let g : FitsSigned w64 (z *ℤ pos (2 ^ a * 2 ^ b)) = subst (λ (n : ℕ). FitsSigned w64 (z *ℤ pos n)) same f in
    record { sfits = omega (arith, mag_more z (2 ^ a) (2 ^ b) (pow_pos b), g.sfits) }

abbrev pub IsScaled : ℤ → ℕ → Option ℤ → Type 0
IsScaled n k r = SomeIff r (FitsSigned w64 (n *ℤ pos (2 ^ k))) (n *ℤ pos (2 ^ k))

pub scaled_on : (n : ℤ) (a b k : ℕ) (part : ℤ) (r : Option ℤ) → a + b ≡ k → part ≡ n *ℤ pos (2 ^ a) →
    IsScaled part b r → IsScaled n k r
scaled_on n a b k part None e p h =
    λ f. h (subst (λ (z : ℤ). FitsSigned w64 z) (sym (ap (λ (z : ℤ). z *ℤ pos (2 ^ b)) p ∙ scaled_twice n a b k e)) f)
scaled_on n a b k part (Some z) e p h =
    let same : part *ℤ pos (2 ^ b) ≡ n *ℤ pos (2 ^ k) = ap (λ (z : ℤ). z *ℤ pos (2 ^ b)) p ∙ scaled_twice n a b k e in
    (subst (λ (z : ℤ). FitsSigned w64 z) same h.0, h.1 ∙ same)

pub scaled_not : (n : ℤ) (a b k : ℕ) → a + b ≡ k → (FitsSigned w64 (n *ℤ pos (2 ^ a)) → ⊥) →
    FitsSigned w64 (n *ℤ pos (2 ^ k)) → ⊥
scaled_not n a b k e h f = h (fits_halfway n a b k e f)

-- a product, divided again
shr_neg : (u t : ℕ) → 0 < t → shr_z (neg_ℤ (pos (suc u * t))) t ≡ negsuc u
shr_neg u t h =
    let up : 0 < suc u * t = mul-pos {m = suc u} {n = t} (omega arith) h in
    let split : suc u * t - 1 ≡ u * t + (t - 1) = omega (arith, suc-mul u t) in
    ap (λ (z : ℤ). shr_z z t) (neg_pos (suc u * t) up) ∙ ap (λ (k : ℕ). negsuc (k / t)) split ∙ ap
    (λ (k : ℕ). negsuc k) (div-mul-add u t (t - 1) (omega arith))

pub shr_of_product : (z : ℤ) (t : ℕ) → 0 < t → shr_z (z *ℤ pos t) t ≡ z
shr_of_product (pos m) t h =
    let e : m * t ≡ m * t + 0 = omega arith in
    ap (λ (k : ℕ). pos (k / t)) e ∙ ap (λ (k : ℕ). pos k) (div-mul-add m t 0 h)
shr_of_product (negsuc m) t h = shr_neg m t h

-- times what is left of 2 ^ 64, a number is its low byte, or its low two bytes, times that
byte_rest : (m : ℕ) → m * 2 ^ 56 % 2 ^ 64 ≡ m % 2 ^ 8 * 2 ^ 56
byte_rest m = omega arith

byte_low : (l : ℕ) → l < 2 ^ 7 → signed (l * 2 ^ 56) ≡ cast_signed w8 l *ℤ pos (2 ^ 56)
byte_low l h =
    let s : cast_signed w8 l ≡ pos l = omega (arith, ints) in
    let e : signed (l * 2 ^ 56) ≡ pos (l * 2 ^ 56) = omega (arith, ints) in
    e ∙ sym (ap (λ (z : ℤ). z *ℤ pos (2 ^ 56)) s)

high_byte_is : (l : ℕ) → 2 ^ 7 ≤ l → cast_signed w8 l ≡ negsuc (2 ^ 8 - suc l)
high_byte_is l h =
    cond_both (λ z. z ≡ negsuc (2 ^ 8 - suc l)) (nat_lt l (2 ^ 7)) _ _ (λ e. absurd (grind arith)) (λ e. refl)

byte_high : (l : ℕ) → 2 ^ 7 ≤ l → l < 2 ^ 8 → signed (l * 2 ^ 56) ≡ cast_signed w8 l *ℤ pos (2 ^ 56)
byte_high l h b =
    let u = (2 ^ 8 - l) * 2 ^ 56 in
    let s : cast_signed w8 l ≡ negsuc (2 ^ 8 - suc l) = high_byte_is l h in
    let k : suc (2 ^ 8 - suc l) ≡ 2 ^ 8 - l = omega arith in
    let r : 2 ^ 64 - suc (l * 2 ^ 56) ≡ u - 1 = omega arith in
    high_is (l * 2 ^ 56) (omega arith) ∙ ap (λ k. negsuc k) r ∙ sym
    (ap (λ (z : ℤ). z *ℤ pos (2 ^ 56)) s ∙ ap (λ (n : ℕ). neg_ℤ (pos (n * 2 ^ 56))) k ∙ neg_pos u (omega arith))

pub byte_raised : (m : ℕ) → signed (m * 2 ^ 56 % 2 ^ 64) ≡ cast_signed w8 (m % 2 ^ 8) *ℤ pos (2 ^ 56)
byte_raised m =
    let l = m % 2 ^ 8 in
    ap (λ k. signed k) (byte_rest m) ∙ below_or_not (2 ^ 7) l (λ h. byte_low l h) (λ h. byte_high l h (omega arith))

half_rest : (m : ℕ) → m * 2 ^ 48 % 2 ^ 64 ≡ m % 2 ^ 16 * 2 ^ 48
half_rest m = omega arith

half_low : (l : ℕ) → l < 2 ^ 15 → signed (l * 2 ^ 48) ≡ cast_signed w16 l *ℤ pos (2 ^ 48)
half_low l h =
    let s : cast_signed w16 l ≡ pos l = omega (arith, ints) in
    let e : signed (l * 2 ^ 48) ≡ pos (l * 2 ^ 48) = omega (arith, ints) in
    e ∙ sym (ap (λ (z : ℤ). z *ℤ pos (2 ^ 48)) s)

high_short_is : (l : ℕ) → 2 ^ 15 ≤ l → cast_signed w16 l ≡ negsuc (2 ^ 16 - suc l)
high_short_is l h =
    cond_both (λ z. z ≡ negsuc (2 ^ 16 - suc l)) (nat_lt l (2 ^ 15)) _ _ (λ e. absurd (grind arith)) (λ e. refl)

half_high : (l : ℕ) → 2 ^ 15 ≤ l → l < 2 ^ 16 → signed (l * 2 ^ 48) ≡ cast_signed w16 l *ℤ pos (2 ^ 48)
half_high l h b =
    let u = (2 ^ 16 - l) * 2 ^ 48 in
    let s : cast_signed w16 l ≡ negsuc (2 ^ 16 - suc l) = high_short_is l h in
    let k : suc (2 ^ 16 - suc l) ≡ 2 ^ 16 - l = omega arith in
    let r : 2 ^ 64 - suc (l * 2 ^ 48) ≡ u - 1 = omega arith in
    high_is (l * 2 ^ 48) (omega arith) ∙ ap (λ k. negsuc k) r ∙ sym
    (ap (λ (z : ℤ). z *ℤ pos (2 ^ 48)) s ∙ ap (λ (n : ℕ). neg_ℤ (pos (n * 2 ^ 48))) k ∙ neg_pos u (omega arith))

pub half_raised : (m : ℕ) → signed (m * 2 ^ 48 % 2 ^ 64) ≡ cast_signed w16 (m % 2 ^ 16) *ℤ pos (2 ^ 48)
half_raised m =
    let l = m % 2 ^ 16 in
    ap (λ k. signed k) (half_rest m) ∙ below_or_not (2 ^ 15) l (λ h. half_low l h) (λ h. half_high l h (omega arith))
