-- Proved; nothing here need be believed.
-- The known bits keep every number of which the fact holds.
use Rattle.std.specs.Prelude.{ℕ, ◌^◌, ◌<◌, ◌≡◌, ◌==◌, not, false, bit_and, bit_or, bit_xor, Option, Some, None}
use Rattle.std.specs.Prelude.{IsSomeAnd}
use Rattle.std.specs.Int.{bit_at}
use Rattle.std.proofs.Common.{sym, ap, ◌∙◌, refl, arith}
use Rattle.std.proofs.lemmas.Nat.Bits.{bit_at_and, bit_at_or, bit_at_xor, bit_at-lt, bit_at-zero, same_from_bits}
use Rattle.abstract_num.specs.Meaning.{IsFact}
use Rattle.abstract_num.specs.Masks.{clear}
use Rattle.abstract_num.specs.proved.PartsFit.{bit_at_clear}
use Rattle.abstract_num.specs.proved.KnownBits.{apart_at}
use Rattle.abstract_num.specs.Parts.{InBits}
use Rattle.abstract_num.specs.Refined.{IsRefined}
use Rattle.abstract_num.specs.BitsFacts.{TwoMasks, bits_fact, conflict, common, denied}
use Rattle.abstract_num.specs.proved.BitsRows.{Agrees, IsMask, at}
use Rattle.abstract_num.specs.declared.fact.Fact.{Fact}
use Rattle.abstract_num.specs.declared.fact.Fact.TheVariants.{Same, Above, AtLeast, SignedAbove, SignedAtLeast}
use Rattle.abstract_num.specs.declared.fact.Fact.TheVariants.{HalfAbove, HalfAtLeast, Meets, Not, NoneOf}
use Rattle.abstract_num.specs.declared.bits.Bits.{Bits}

abbrev pub AreMasks : TwoMasks → Bits × Bits → Type 0
AreMasks e s = IsMask s.0 e.0 × IsMask s.1 e.1

abbrev pub BitsRefine : Fact → Bits → Bits → Option (Bits × Bits) → Type 0
BitsRefine f x y r =
    IsRefined (denied f x.value x.unknown y.value y.unknown)
    (AreMasks (bits_fact f x.value x.unknown y.value y.unknown)) r

is_zero : (n : ℕ) → n ≡ 0 → not (n == 0) ≡ false
is_zero n e = rw e refl

not_zero : (n : ℕ) → (n ≡ 0 → ⊥) → (n == 0) ≡ false
not_zero n h = grind arith

no_conflict : (v1 m1 v2 m2 n : ℕ) → clear n m1 ≡ v1 → clear n m2 ≡ v2 → conflict v1 m1 v2 m2 ≡ 0
no_conflict v1 m1 v2 m2 n p q =
    same_from_bits (conflict v1 m1 v2 m2) 0 (λ i.
    omega (
      arith,
      bit_at_clear (clear (bit_xor v1 v2) m1) m2 i,
      bit_at_clear (bit_xor v1 v2) m1 i,
      bit_at_xor v1 v2 i,
      at n v1 m1 p i,
      at n v2 m2 q i,
      bit_at-zero i,
      bit_at-lt n i,
      bit_at-lt m1 i,
      bit_at-lt m2 i,
    ))

meet_agrees : (v1 m1 v2 m2 n : ℕ) → clear n m1 ≡ v1 → clear n m2 ≡ v2 → clear n (bit_and m1 m2) ≡ bit_or v1 v2
meet_agrees v1 m1 v2 m2 n p q =
    same_from_bits _ _ (λ i. omega (
      arith,
      bit_at_clear n (bit_and m1 m2) i,
      bit_at_and m1 m2 i,
      bit_at_or v1 v2 i,
      at n v1 m1 p i,
      at n v2 m2 q i,
      bit_at-lt n i,
      bit_at-lt m1 i,
      bit_at-lt m2 i,
    ))

nothing_common : (v1 m1 v2 m2 k n : ℕ) → clear k m1 ≡ v1 → clear n m2 ≡ v2 → common v1 m1 v2 m2 ≡ 0 → bit_and k n ≡ 0
nothing_common v1 m1 v2 m2 k n p q z =
    same_from_bits (bit_and k n) 0 (λ i. omega (
      arith,
      ap (λ v. bit_at v i) z,
      bit_at_and k n i,
      bit_at_and (bit_or v1 m1) (bit_or v2 m2) i,
      bit_at_or v1 m1 i,
      bit_at_or v2 m2 i,
      at k v1 m1 p i,
      at n v2 m2 q i,
      bit_at-zero i,
      bit_at-lt k i,
      bit_at-lt n i,
      bit_at-lt m1 i,
      bit_at-lt m2 i,
    ))

none_agrees : (v m c n : ℕ) → clear n m ≡ v → bit_and n c ≡ 0 → clear n (clear m c) ≡ v
none_agrees v m c n p l =
    same_from_bits _ _ (λ i. omega (
      arith,
      bit_at_clear n (clear m c) i,
      bit_at_clear m c i,
      at n v m p i,
      bit_at_and n c i,
      ap (λ x. bit_at x i) l,
      bit_at-zero i,
      bit_at-lt n i,
      bit_at-lt c i,
      bit_at-lt m i,
    ))

none_known : (v m c n : ℕ) → clear n m ≡ v → bit_and n c ≡ 0 → bit_and v c ≡ 0
none_known v m c n p l =
    same_from_bits (bit_and v c) 0 (λ i. omega (
      arith,
      bit_at_and v c i,
      at n v m p i,
      bit_at_and n c i,
      ap (λ x. bit_at x i) l,
      bit_at-zero i,
      bit_at-lt n i,
      bit_at-lt c i,
      bit_at-lt m i,
    ))

pub bits_fact_keeps : (f : Fact) (v1 m1 v2 m2 k n : ℕ) → clear k m1 ≡ v1 → clear n m2 ≡ v2 → IsFact f k n
    → (denied f v1 m1 v2 m2 ≡ false) × Agrees (bits_fact f v1 m1 v2 m2).0 k × Agrees (bits_fact f v1 m1 v2 m2).1 n
bits_fact_keeps Same v1 m1 v2 m2 k n p q h =
    let s : clear k m2 ≡ v2 = ap (λ x. clear x m2) h ∙ q in
    let t : clear n m1 ≡ v1 = ap (λ x. clear x m1) (sym h) ∙ p in
    (is_zero _ (no_conflict v1 m1 v2 m2 k p s), meet_agrees v1 m1 v2 m2 k p s, meet_agrees v1 m1 v2 m2 n t q)
bits_fact_keeps Meets v1 m1 v2 m2 k n p q h = (not_zero _ (λ z. h (nothing_common v1 m1 v2 m2 k n p q z)), p, q)
bits_fact_keeps (NoneOf c) v1 m1 v2 m2 k n p q h = (is_zero _ (none_known v1 m1 c k p h), none_agrees v1 m1 c k p h, q)
bits_fact_keeps Above v1 m1 v2 m2 k n p q h = (refl, p, q)
bits_fact_keeps AtLeast v1 m1 v2 m2 k n p q h = (refl, p, q)
bits_fact_keeps SignedAbove v1 m1 v2 m2 k n p q h = (refl, p, q)
bits_fact_keeps SignedAtLeast v1 m1 v2 m2 k n p q h = (refl, p, q)
bits_fact_keeps HalfAbove v1 m1 v2 m2 k n p q h = (refl, p, q)
bits_fact_keeps HalfAtLeast v1 m1 v2 m2 k n p q h = (refl, p, q)
bits_fact_keeps (Not c) v1 m1 v2 m2 k n p q h = (refl, p, q)

in_mask : (z : Bits) (e : ℕ × ℕ) (n : ℕ) → IsMask z e → Agrees e n → n < 2 ^ 64 → InBits z n
in_mask z e n s i f = (ap (λ (u : ℕ). clear n u) s.1 ∙ i ∙ sym s.0, f)

pub bits_refine_sound : (f : Fact) (x y : Bits) (r : Option (Bits × Bits)) → BitsRefine f x y r
    → (m n : ℕ) → InBits x m → InBits y n → IsFact f m n → IsSomeAnd r (λ s. InBits s.0 m × InBits s.1 n)
bits_refine_sound f x y None c m n p q h =
    let i = bits_fact_keeps f x.value x.unknown y.value y.unknown m n p.0 q.0 h in
    let j : denied f x.value x.unknown y.value y.unknown ≡ false = i.0 in cc
bits_refine_sound f x y (Some s) c m n p q h =
    let i = bits_fact_keeps f x.value x.unknown y.value y.unknown m n p.0 q.0 h in
    (in_mask s.0 _ m c.1.0 i.1 p.1, in_mask s.1 _ n c.1.1 i.2 q.1)

-- The known bits of a meet have no bit in common, if there is no conflict; nor have those
-- without some unknown ones.
pub meet_apart : (v1 m1 v2 m2 : ℕ) → bit_and v1 m1 ≡ 0 → bit_and v2 m2 ≡ 0 → conflict v1 m1 v2 m2 ≡ 0 →
    bit_and (bit_or v1 v2) (bit_and m1 m2) ≡ 0
meet_apart v1 m1 v2 m2 a b z =
    same_from_bits (bit_and (bit_or v1 v2) (bit_and m1 m2)) 0
    (λ i. omega (
      arith,
      bit_at_and (bit_or v1 v2) (bit_and m1 m2) i,
      bit_at_or v1 v2 i,
      bit_at_and m1 m2 i,
      apart_at v1 m1 a i,
      apart_at v2 m2 b i,
      bit_at-zero i,
      bit_at-lt v1 i,
      bit_at-lt v2 i,
      bit_at-lt m1 i,
      bit_at-lt m2 i,
    ))

pub fewer_apart : (v m c : ℕ) → bit_and v m ≡ 0 → bit_and v (clear m c) ≡ 0
fewer_apart v m c a =
    same_from_bits (bit_and v (clear m c)) 0
    (λ i. omega (
      arith,
      bit_at_and v (clear m c) i,
      bit_at_clear m c i,
      apart_at v m a i,
      bit_at-zero i,
      bit_at-lt v i,
      bit_at-lt m i,
    ))
