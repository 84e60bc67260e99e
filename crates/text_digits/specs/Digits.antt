-- Numbers as digits spell them.
use Rattle.std.specs.Prelude.{ℕ, ◌==◌, ◌&&◌, ◌||◌, not, nat_le, Bool, false, List, length, slice_index, Option, Some}
use Rattle.std.specs.Prelude.{None, if◌then◌else◌}
use Rattle.std.specs.List.{list_all}
use Rattle.std.specs.Char.{is_digit}
use Rattle.std.specs.Str.Parse.{digits_value}

-- one digit or more, and nothing else
abbrev pub all_digits : ℕ → List ℕ → Bool
all_digits radix ds = if length ds == 0 then false else list_all (λ c. is_digit c radix) ds

-- decimal digits without a leading zero
abbrev pub is_decimal : List ℕ → Bool
is_decimal ds = all_digits 10 ds && (length ds == 1 || not (slice_index ds 0 == 48))

-- the number that they write, if it is at most `most`
abbrev pub value_within : ℕ → ℕ → List ℕ → Option ℕ
value_within most radix ds = if nat_le (digits_value radix ds) most then Some (digits_value radix ds) else None
