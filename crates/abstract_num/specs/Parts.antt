-- What the four parts of a number hold, their joins and their orders.
use Rattle.std.specs.Prelude.{◌≡◌, ℕ, ◌^◌, ◌<◌, ◌≤◌, ◌≤ℤ◌, min, max}
use Rattle.std.specs.Int.{int_min, int_max}
use Rattle.abstract_num.specs.Signed.{signed, signed_half}
use Rattle.abstract_num.specs.Masks.{clear}
use Rattle.abstract_num.specs.proved.PartsFit.{hull_ordered, hull_fits, signed_hull_ordered, half_hull_ordered}
use Rattle.abstract_num.specs.proved.PartsFit.{clear_apart, clear_lt, joined_unknown, joined_unknown_fits}
use Rattle.abstract_num.specs.declared.urange.URange.{URange}
use Rattle.abstract_num.specs.declared.srange.SRange.{SRange}
use Rattle.abstract_num.specs.declared.bits.Bits.{Bits}
use Rattle.abstract_num.specs.declared.half.Half.{Half}

-- n lies between the ends, as it is and as a signed number
abbrev pub InURange : URange → ℕ → Type 0
InURange x n = (x.low ≤ n) × (n ≤ x.high) × (n < 2 ^ 64)

abbrev pub InSRange : SRange → ℕ → Type 0
InSRange x n = (x.low ≤ℤ signed n) × (signed n ≤ℤ x.high) × (n < 2 ^ 64)

-- n agrees with the known bits
abbrev pub InBits : Bits → ℕ → Type 0
InBits x n = (clear n x.unknown ≡ x.value) × (n < 2 ^ 64)

-- its low half lies between the ends as a signed number
abbrev pub InHalf : Half → ℕ → Type 0
InHalf x n = (x.low ≤ℤ signed_half n) × (signed_half n ≤ℤ x.high) × (n < 2 ^ 64)

-- numbers of the same low half
abbrev pub HaveSameHalf : ℕ → ℕ → Type 0
HaveSameHalf k n = (k < 2 ^ 64) × (signed_half k ≡ signed_half n)

-- the hull
abbrev pub joined_urange : URange → URange → URange
joined_urange x y =
    record { low = min x.low y.low; high = max x.high y.high; ordered = hull_ordered x y; fits = hull_fits x y }

-- the hull
abbrev pub joined_srange : SRange → SRange → SRange
joined_srange x y =
    record { low = int_min x.low y.low; high = int_max x.high y.high; ordered = signed_hull_ordered x y }

-- a bit is known if both know it and agree
abbrev pub joined_bits : Bits → Bits → Bits
joined_bits x y =
    let m = joined_unknown x y in
    record {
      value = clear x.value m;
      unknown = m;
      apart = clear_apart x.value m;
      value_fits = clear_lt x.value m x.value_fits;
      unknown_fits = joined_unknown_fits x y;
    }

-- the hull
abbrev pub joined_half : Half → Half → Half
joined_half x y = record { low = int_min x.low y.low; high = int_max x.high y.high; ordered = half_hull_ordered x y }

-- a range, or a half, whose ends are inside the other's
abbrev pub BelowURange : URange → URange → Type 0
BelowURange x y = (y.low ≤ x.low) × (x.high ≤ y.high)

abbrev pub BelowSRange : SRange → SRange → Type 0
BelowSRange x y = (y.low ≤ℤ x.low) × (x.high ≤ℤ y.high)

abbrev pub BelowHalf : Half → Half → Type 0
BelowHalf x y = (y.low ≤ℤ x.low) × (x.high ≤ℤ y.high)

-- each bit that y knows is known, and the same, in x
abbrev pub BelowBits : Bits → Bits → Type 0
BelowBits x y = (clear x.unknown y.unknown ≡ 0) × (clear x.value y.unknown ≡ y.value)
