-- Proved; nothing here need be believed.
-- That the joins of parts are parts.
use Rattle.std.specs.Prelude.{◌≡◌, ℕ, ◌-◌, ◌^◌, ◌<◌, ◌≤◌, ◌≤ℤ◌, min, max, bit_and, bit_or, bit_xor}
use Rattle.std.specs.Int.{bit_at, int_min, int_max}
use Rattle.std.proofs.Common.{arith}
use Rattle.std.proofs.lemmas.Int.{ints, clamps}
use Rattle.std.proofs.lemmas.Nat.{and_le_l, or_lt, xor_lt}
use Rattle.std.proofs.lemmas.Nat.Bits.{bit_at_and, bit_at_xor, bit_at-lt, bit_at-zero, same_from_bits}
use Rattle.abstract_num.specs.Masks.{clear}
use Rattle.abstract_num.specs.declared.urange.URange.{URange}
use Rattle.abstract_num.specs.declared.srange.SRange.{SRange}
use Rattle.abstract_num.specs.declared.bits.Bits.{Bits}
use Rattle.abstract_num.specs.declared.half.Half.{Half}

pub hull_ordered : (x y : URange) → min x.low y.low ≤ max x.high y.high
hull_ordered x y = omega (arith, x.ordered)

pub hull_fits : (x y : URange) → max x.high y.high < 2 ^ 64
hull_fits x y = omega (arith, x.fits, y.fits)

pub signed_hull_ordered : (x y : SRange) → int_min x.low y.low ≤ℤ int_max x.high y.high
signed_hull_ordered x y = omega (arith, ints, clamps)

pub half_hull_ordered : (x y : Half) → int_min x.low y.low ≤ℤ int_max x.high y.high
half_hull_ordered x y = omega (arith, ints, clamps)

pub bit_at_clear : (n m i : ℕ) → bit_at (clear n m) i ≡ bit_at n i - bit_at m i
bit_at_clear n m i =
    simp (bit_at_xor, bit_at_and) (omega (arith, bit_at-lt n i, bit_at-lt m i))

pub clear_apart : (v m : ℕ) → bit_and (clear v m) m ≡ 0
clear_apart v m =
    same_from_bits (bit_and (clear v m) m) 0
    (λ i. omega (arith, bit_at_and (clear v m) m i, bit_at_clear v m i, bit_at-zero i, bit_at-lt v i, bit_at-lt m i))

pub clear_lt : (v m : ℕ) → v < 2 ^ 64 → clear v m < 2 ^ 64
clear_lt v m p = xor_lt 64 v (bit_and v m) p (omega (arith, and_le_l v m))

-- what either doesn't know, and where they differ
abbrev pub joined_unknown : Bits → Bits → ℕ
joined_unknown x y = bit_or (bit_or x.unknown y.unknown) (bit_xor x.value y.value)

pub joined_unknown_fits : (x y : Bits) → joined_unknown x y < 2 ^ 64
joined_unknown_fits x y =
    or_lt 64 _ _ (or_lt 64 x.unknown y.unknown x.unknown_fits y.unknown_fits)
    (xor_lt 64 x.value y.value x.value_fits y.value_fits)
