-- Tightening: the parts of a number meet, one after another.
use Rattle.std.specs.Prelude.{ℕ, ℤ, pos, negsuc, ◌+ℤ◌, ◌-ℤ◌, int_le, int_lt, nat_lt, nat_le, ◌==◌, ◌&&◌, ◌||◌, ◌+◌, ◌-◌}
use Rattle.std.specs.Prelude.{◌^◌, min, max, Bool, if◌then◌else◌, Option, Some, None, option_and_then}
use Rattle.std.specs.Int.{int_min, int_max}
use Rattle.abstract_num.specs.Masks.{clear}
use Rattle.abstract_num.specs.Signed.{signed, signed_half}
use Rattle.abstract_num.specs.Plain.{Plain, any}
use Rattle.abstract_num.specs.declared.precision.Precision.{Precision}
use Rattle.abstract_num.specs.declared.precision.Precision.TheVariants.{Whole, Halves}

-- z, or 0 if it is negative
abbrev pub natural : ℤ → ℕ
natural (pos n) = n
natural (negsuc n) = 0

-- n less 2 ^ 64
abbrev pub less_all : ℕ → ℤ
less_all n = pos n -ℤ pos (2 ^ 64)

-- z plus 2 ^ 64, which isn't negative where it is asked
abbrev pub plus_all : ℤ → ℕ
plus_all z = natural (z +ℤ pos (2 ^ 64))

-- x with its unsigned range cut to what lies from a to b, and with its signed one from p to q:
abbrev pub meet_unsigned : Plain → ℕ → ℕ → Plain
meet_unsigned x a b = record x { low = max x.low a; high = min x.high b }

abbrev pub meet_signed : Plain → ℤ → ℤ → Plain
meet_signed x p q = record x { least = int_max x.least p; greatest = int_min x.greatest q }

-- the unsigned range meets the least and the greatest number of the bits
abbrev pub by_bits : Plain → Plain
by_bits x = meet_unsigned x x.value (x.value + x.unknown)

-- the signed range meets the unsigned one, if its numbers have one sign
abbrev pub by_unsigned : Plain → Plain
by_unsigned x =
    (if nat_lt x.high (2 ^ 63) then meet_signed x (pos x.low) (pos x.high)
    else (if nat_le (2 ^ 63) x.low then meet_signed x (less_all x.low) (less_all x.high) else x))

-- the unsigned range meets the signed one, if its numbers have one sign
abbrev pub by_signed : Plain → Plain
by_signed x =
    (if int_le (pos 0) x.least then meet_unsigned x (natural x.least) (natural x.greatest)
    else (if int_lt x.greatest (pos 0) then meet_unsigned x (plus_all x.least) (plus_all x.greatest) else x))

-- bits and signed range hold n
abbrev pub agrees_with : Plain → ℕ → Bool
agrees_with x n = (clear n x.unknown == x.value) && (int_le x.least (signed n) && int_le (signed n) x.greatest)

-- the range, the signed range and the bits of n alone
abbrev pub with_number : Plain → ℕ → Plain
with_number x n = record x { low = n; high = n; least = signed n; greatest = signed n; value = n; unknown = 0 }

-- a range of one number makes bits and signed range that number, if they hold it
abbrev pub by_constant : Plain → Option Plain
by_constant x = (if x.low == x.high then (if agrees_with x x.low then Some (with_number x x.low) else None) else Some x)

-- The unsigned range, the signed range and the bits: the four in this order, nothing as soon as a
-- range's ends cross. The half stays.
unfoldable pub tighten_whole : Plain → Option Plain
tighten_whole x =
    let y = by_bits x in
    let z = by_unsigned y in
    let w = by_signed z in
    (if nat_lt y.high y.low then None
    else (if int_lt z.greatest z.least then None
    else (if nat_lt w.high w.low then None
    else by_constant w)))

-- the signed range lies in 32 signed bits, so each number is its own half
abbrev pub is_short : Plain → Bool
is_short x = int_le (negsuc (2 ^ 31 - 1)) x.least && int_lt x.greatest (pos (2 ^ 31))

-- the signed range and the half become their meet
abbrev pub meet_half : Plain → Plain
meet_half x =
    let p = int_max x.least x.half_least in
    let q = int_min x.greatest x.half_greatest in
    record x { least = p; greatest = q; half_least = p; half_greatest = q }

-- The half meets the signed range if that lies in 32 signed bits; else the unsigned range meets
-- the half if that lies in 32 bits and the half isn't negative.
abbrev pub by_half : Plain → Plain
by_half x =
    (if is_short x then meet_half x
    else (if nat_lt x.high (2 ^ 32) && int_le (pos 0) x.half_least
    then meet_unsigned x (natural x.half_least) (natural x.half_greatest)
    else x))

-- an end of a range moved inwards from x to y
abbrev pub is_narrowed : Plain → Plain → Bool
is_narrowed x y =
    (nat_lt x.low y.low || nat_lt y.high x.high) || (int_lt x.least y.least || int_lt y.greatest x.greatest)

-- a range's ends cross
abbrev pub is_empty : Plain → Bool
is_empty x = nat_lt x.high x.low || int_lt x.greatest x.least

-- the half holds n
abbrev pub half_agrees : Plain → ℕ → Bool
half_agrees x n = int_le x.half_least (signed_half n) && int_le (signed_half n) x.half_greatest

-- a range of one number makes the half that number's, if it holds that
abbrev pub half_of_constant : Plain → Option Plain
half_of_constant x =
    let n = signed_half x.low in
    (if x.low == x.high
    then (if half_agrees x x.low then Some (record x { half_least = n; half_greatest = n }) else None)
    else Some x)

-- the parts but the half, again if the half narrowed a range
abbrev pub tighten_again : Plain → Plain → Option Plain
tighten_again x y = (if is_empty y then None else (if is_narrowed x y then tighten_whole y else Some y))

-- the parts but the half, the half with the ranges, those parts again, and the half of one number
abbrev pub tighten_halves : Plain → Option Plain
tighten_halves x =
    option_and_then half_of_constant (option_and_then (λ y. tighten_again y (by_half y)) (tighten_whole x))

-- the number with any half
abbrev pub with_any_half : Plain → Plain
with_any_half x = record x { half_least = any.half_least; half_greatest = any.half_greatest }

-- whole numbers know nothing of halves
abbrev pub tighten : Precision → Plain → Option Plain
tighten Whole x = tighten_whole (with_any_half x)
tighten Halves x = tighten_halves x
