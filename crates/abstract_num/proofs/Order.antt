-- The laws of the number's join and order, from those of its parts.
use Rattle.std.proofs.Common.{◌≡◌, ℕ, ℤ, ap, arith}
use Rattle.std.specs.Prelude.{◌≤ℤ◌}
use Rattle.std.specs.Int.{bit_at}
use mathlib.Core.Path.{ap₂}
use Rattle.std.proofs.lemmas.Int.{ints}
use Rattle.std.proofs.lemmas.Nat.Bits.{bit_at-lt, bit_at-zero, same_from_bits}
use Rattle.abstract_num.specs.Masks.{clear}
use Rattle.abstract_num.specs.proved.PartsFit.{bit_at_clear}
use Rattle.abstract_num.specs.proved.Ranges.{urange_join_commutes, urange_join_associates, urange_join_of_same, urange_join_is_above, urange_below_holds, srange_join_commutes, srange_join_associates, srange_join_of_same, srange_join_is_above, srange_below_holds, half_join_commutes, half_join_associates, half_join_of_same, half_join_is_above, half_below_holds}
use Rattle.abstract_num.specs.proved.KnownBits.{apart_at, bits_join_commutes, bits_join_associates, bits_join_of_same, bits_join_is_above, bits_below_holds}
use Rattle.abstract_num.specs.Plain.{Number}
use Rattle.abstract_num.specs.Laws.{JoinCommutes, JoinAssociates, JoinOfSame, JoinIsAbove, BelowIsReflexive, BelowIsTransitive, BelowHolds}
use Rattle.abstract_num.specs.declared.urange.URange.{URange}
use Rattle.abstract_num.specs.declared.srange.SRange.{SRange}
use Rattle.abstract_num.specs.declared.bits.Bits.{Bits}
use Rattle.abstract_num.specs.declared.half.Half.{Half}
use Rattle.abstract_num.specs.declared.product.Product.{Product}

abbrev bits_part : Bits → Half → Product Bits Half
bits_part b h = record { first = b; second = h }

abbrev signed_part : SRange → Product Bits Half → Product SRange (Product Bits Half)
signed_part s p = record { first = s; second = p }

abbrev number_of : URange → Product SRange (Product Bits Half) → Number
number_of u p = record { first = u; second = p }

pub commutes : JoinCommutes
commutes x y =
    ap₂ number_of (urange_join_commutes x.first y.first)
    (ap₂ signed_part (srange_join_commutes x.second.first y.second.first) (ap₂ bits_part (bits_join_commutes x.second.second.first y.second.second.first) (half_join_commutes x.second.second.second y.second.second.second)))

pub associates : JoinAssociates
associates x y z =
    ap₂ number_of (urange_join_associates x.first y.first z.first)
    (ap₂ signed_part (srange_join_associates x.second.first y.second.first z.second.first) (ap₂ bits_part (bits_join_associates x.second.second.first y.second.second.first z.second.second.first) (half_join_associates x.second.second.second y.second.second.second z.second.second.second)))

pub of_same : JoinOfSame
of_same x =
    ap₂ number_of (urange_join_of_same x.first)
    (ap₂ signed_part (srange_join_of_same x.second.first) (ap₂ bits_part (bits_join_of_same x.second.second.first) (half_join_of_same x.second.second.second)))

pub is_above : JoinIsAbove
is_above x y =
    let u = urange_join_is_above x.first y.first in
    let s = srange_join_is_above x.second.first y.second.first in
    let b = bits_join_is_above x.second.second.first y.second.second.first in
    let h = half_join_is_above x.second.second.second y.second.second.second in
    record { low = u.0; high = u.1; least = s.0; greatest = s.1; knows = b.0; agrees = b.1; half_least = h.0; half_greatest = h.1 }

le_same : (z : ℤ) → z ≤ℤ z
le_same z = omega (arith, ints)

le_through : (a b c : ℤ) → a ≤ℤ b → b ≤ℤ c → a ≤ℤ c
le_through a b c p q = omega (arith, ints)

clear_self : (m : ℕ) → clear m m ≡ 0
clear_self m = same_from_bits (clear m m) 0 (λ i. omega (arith, bit_at_clear m m i, bit_at-zero i))

clear_own : (x : Bits) → clear x.value x.unknown ≡ x.value
clear_own x =
    same_from_bits (clear x.value x.unknown) x.value
    (λ i. omega (arith, bit_at_clear x.value x.unknown i, apart_at x.value x.unknown x.apart i, bit_at-lt x.value i, bit_at-lt x.unknown i))

pub reflexive : BelowIsReflexive
reflexive x =
    record { low = omega arith; high = omega arith; least = le_same x.second.first.low; greatest = le_same x.second.first.high; knows = clear_self x.second.second.first.unknown; agrees = clear_own x.second.second.first; half_least = le_same x.second.second.second.low; half_greatest = le_same x.second.second.second.high }

clears : (k m u : ℕ) → clear k m ≡ 0 → clear m u ≡ 0 → clear k u ≡ 0
clears k m u p q =
    same_from_bits (clear k u) 0
    (λ i. omega (arith, bit_at_clear k u i, bit_at_clear k m i, bit_at_clear m u i, ap (λ v. bit_at v i) p, ap (λ v. bit_at v i) q, bit_at-zero i, bit_at-lt k i, bit_at-lt m i, bit_at-lt u i))

agrees_on : (v w z m u : ℕ) → clear v m ≡ w → clear w u ≡ z → clear m u ≡ 0 → clear v u ≡ z
agrees_on v w z m u p q r =
    same_from_bits (clear v u) z
    (λ i. omega (arith, bit_at_clear v u i, bit_at_clear v m i, bit_at_clear w u i, bit_at_clear m u i, ap (λ k. bit_at k i) p, ap (λ k. bit_at k i) q, ap (λ k. bit_at k i) r, bit_at-zero i, bit_at-lt v i, bit_at-lt m i, bit_at-lt u i))

pub transitive : BelowIsTransitive
transitive x y z h k =
    record {
      low = omega (arith, h.low, k.low);
      high = omega (arith, h.high, k.high);
      least = le_through z.second.first.low y.second.first.low x.second.first.low k.least h.least;
      greatest = le_through x.second.first.high y.second.first.high z.second.first.high h.greatest k.greatest;
      knows = clears x.second.second.first.unknown y.second.second.first.unknown z.second.second.first.unknown h.knows k.knows;
      agrees = agrees_on x.second.second.first.value y.second.second.first.value z.second.second.first.value y.second.second.first.unknown z.second.second.first.unknown h.agrees k.agrees k.knows;
      half_least = le_through z.second.second.second.low y.second.second.second.low x.second.second.second.low k.half_least h.half_least;
      half_greatest = le_through x.second.second.second.high y.second.second.second.high z.second.second.second.high h.half_greatest k.half_greatest;
    }

pub below_holds : BelowHolds
below_holds x y b n h =
    let u = urange_below_holds x.first y.first (b.low, b.high) n (h.above, h.below, h.fits) in
    let s = srange_below_holds x.second.first y.second.first (b.least, b.greatest) n (h.at_least, h.at_most, h.fits) in
    let e = half_below_holds x.second.second.second y.second.second.second (b.half_least, b.half_greatest) n (h.half_at_least, h.half_at_most, h.fits) in
    let m = bits_below_holds x.second.second.first y.second.second.first (b.knows, b.agrees) n (h.agrees, h.fits) in
    record { fits = h.fits; above = u.0; below = u.1; at_least = s.0; at_most = s.1; agrees = m.0; half_at_least = e.0; half_at_most = e.1 }
