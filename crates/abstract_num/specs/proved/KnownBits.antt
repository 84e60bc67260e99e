-- Proved; nothing here need be believed.
-- The laws of joining known bits, bit by bit.
use Rattle.std.specs.Prelude.{◌≡◌, ℕ, ◌+◌, ◌-◌, ◌%◌, ◌^◌, ◌<◌, min, max, bit_and}
use Rattle.std.specs.Int.{bit_at}
use Rattle.std.proofs.Common.{sym, ap, ◌∙◌, refl, arith, subst}
use Rattle.std.proofs.Props.{props}
use Rattle.std.proofs.lemmas.Nat.Bits.{bit_at_and, bit_at_or, bit_at_xor, bit_at-lt, bit_at-zero, same_from_bits}
use Rattle.abstract_num.specs.proved.PartsFit.{joined_unknown, bit_at_clear}
use Rattle.abstract_num.specs.Parts.{InBits, joined_bits, BelowBits}
use Rattle.abstract_num.specs.declared.bits.Bits.{Bits}

record OfMasks (v m : ℕ) : Type 0 where
  apart : bit_and v m ≡ 0
  value_fits : v < 2 ^ 64
  unknown_fits : m < 2 ^ 64

abbrev bits_of : (v m : ℕ) → OfMasks v m → Bits
bits_of v m a =
    record { value = v; unknown = m; apart = a.apart; value_fits = a.value_fits; unknown_fits = a.unknown_fits }

once : (v m : ℕ) → IsProp (OfMasks v m)
once v m = hlevel props

bits_same_from : (v m w k : ℕ) (a : OfMasks v m) → v ≡ w → m ≡ k → (b : OfMasks w k) → bits_of v m a ≡ bits_of w k b
bits_same_from v m w k a p q =
    subst (λ (u : ℕ). (b : OfMasks u k) → bits_of v m a ≡ bits_of u k b) p
    (subst (λ (u : ℕ). (b : OfMasks v u) → bits_of v m a ≡ bits_of v u b) q
    (λ b. ap (bits_of v m) (once v m a b)))

-- two values of the same masks are the same
pub bits_same : (x y : Bits) → x.value ≡ y.value → x.unknown ≡ y.unknown → x ≡ y
bits_same x y p q =
    bits_same_from x.value x.unknown y.value y.unknown
    (record { apart = x.apart; value_fits = x.value_fits; unknown_fits = x.unknown_fits }) p q
    (record { apart = y.apart; value_fits = y.value_fits; unknown_fits = y.unknown_fits })

-- no bit of both, at each place
pub apart_at : (v m : ℕ) → bit_and v m ≡ 0 → (i : ℕ) → min (bit_at v i) (bit_at m i) ≡ 0
apart_at v m e i = sym (bit_at_and v m i) ∙ ap (λ x. bit_at x i) e ∙ bit_at-zero i

unknown_at : (x y : Bits) (i : ℕ) → bit_at (joined_unknown x y) i ≡
    max (max (bit_at x.unknown i) (bit_at y.unknown i)) ((bit_at x.value i + bit_at y.value i) % 2)
unknown_at x y i = simp (bit_at_or, bit_at_xor) refl

value_at : (x y : Bits) (i : ℕ) → bit_at (joined_bits x y).value i ≡ bit_at x.value i - bit_at (joined_unknown x y) i
value_at x y i = bit_at_clear x.value (joined_unknown x y) i

-- the bits that must be one
value_min : (x y : Bits) (i : ℕ) → bit_at (joined_bits x y).value i ≡ min (bit_at x.value i) (bit_at y.value i)
value_min x y i =
    omega (
      arith,
      value_at x y i,
      unknown_at x y i,
      apart_at x.value x.unknown x.apart i,
      apart_at y.value y.unknown y.apart i,
      bit_at-lt x.value i,
      bit_at-lt y.value i,
      bit_at-lt x.unknown i,
      bit_at-lt y.unknown i,
    )

-- the bits that may be one
may_max : (x y : Bits) (i : ℕ) → bit_at (joined_bits x y).value i + bit_at (joined_bits x y).unknown i ≡
    max (bit_at x.value i + bit_at x.unknown i) (bit_at y.value i + bit_at y.unknown i)
may_max x y i =
    omega (
      arith,
      value_at x y i,
      unknown_at x y i,
      apart_at x.value x.unknown x.apart i,
      apart_at y.value y.unknown y.apart i,
      bit_at-lt x.value i,
      bit_at-lt y.value i,
      bit_at-lt x.unknown i,
      bit_at-lt y.unknown i,
    )

pub bits_join_commutes : (x y : Bits) → joined_bits x y ≡ joined_bits y x
bits_join_commutes x y =
    bits_same (joined_bits x y) (joined_bits y x)
    (same_from_bits _ _ (λ i. omega (arith, value_min x y i, value_min y x i)))
    (same_from_bits _ _ (λ i. omega (arith, unknown_at x y i, unknown_at y x i)))

pub bits_join_of_same : (x : Bits) → joined_bits x x ≡ x
bits_join_of_same x =
    bits_same (joined_bits x x) x
    (same_from_bits _ _ (λ i. omega (arith, value_min x x i)))
    (same_from_bits _ _ (λ i. omega (arith, value_min x x i, may_max x x i)))

pub bits_join_associates : (x y z : Bits) → joined_bits (joined_bits x y) z ≡ joined_bits x (joined_bits y z)
bits_join_associates x y z =
    let l = joined_bits x y in
    let r = joined_bits y z in
    bits_same (joined_bits l z) (joined_bits x r)
    (same_from_bits _ _ (λ i. omega (arith, value_min l z i, value_min x y i, value_min x r i, value_min y z i)))
    (same_from_bits _ _ (λ i. omega (
      arith,
      value_min l z i,
      value_min x y i,
      value_min x r i,
      value_min y z i,
      may_max l z i,
      may_max x y i,
      may_max x r i,
      may_max y z i,
    )))

pub bits_join_is_above : (x y : Bits) → BelowBits x (joined_bits x y)
bits_join_is_above x y = (
  same_from_bits _ _ (λ i. omega (
    arith,
    bit_at_clear x.unknown (joined_unknown x y) i,
    unknown_at x y i,
    bit_at-zero i,
  )),
  refl,
)

pub bits_below_holds : (x y : Bits) → BelowBits x y → (n : ℕ) → InBits x n → InBits y n
bits_below_holds x y b n h = (
  same_from_bits _ _ (λ i. omega (
    arith,
    bit_at_clear n y.unknown i,
    bit_at_clear n x.unknown i,
    ap (λ v. bit_at v i) h.0,
    ap (λ v. bit_at v i) b.0,
    ap (λ v. bit_at v i) b.1,
    bit_at_clear x.unknown y.unknown i,
    bit_at_clear x.value y.unknown i,
    bit_at-zero i,
    bit_at-lt n i,
    bit_at-lt x.unknown i,
    bit_at-lt y.unknown i,
  )),
  h.1,
)
