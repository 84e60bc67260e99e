-- Numbers and registers as a text has them.
use Rattle.std.specs.Prelude.{ℕ, ℤ, pos, neg_ℤ, ◌==◌, ◌&&◌, nat_le, Bool, true, false, List, length, drop, slice_index}
use Rattle.std.specs.Prelude.{Option, Some, None, if◌then◌else◌, Result, Ok, Err}
use Rattle.std.specs.Str.Parse.{digits_value}
use Rattle.text_digits.specs.Digits.{all_digits, is_decimal}
use Rattle.asm_lines.specs.declared.fault.AsmFault.{AsmFault}
use Rattle.asm_lines.specs.declared.fault.AsmFault.TheVariants.{Operand, Range}
use Rattle.asm_lines.specs.declared.number.Number.{Number}

-- decimal digits without a leading zero
unfoldable pub decimal_number : List ℕ → Option ℕ
decimal_number ds = if is_decimal ds then Some (digits_value 10 ds) else None

-- 1 to 16 digits to base 16, of either case
unfoldable pub hex_number : List ℕ → Option ℕ
hex_number ds = if all_digits 16 ds && nat_le (length ds) 16 then Some (digits_value 16 ds) else None

-- a number without a sign: decimal, or to base 16 after `0x`
unfoldable pub natural : List ℕ → Option ℕ
natural text =
    if slice_index text 0 == 48 && slice_index text 1 == 120 then hex_number (drop 2 text) else decimal_number text

-- a number without a sign that was read, if it is at most `most`: no number is 2 Operand, a greater
-- one 3 Range
abbrev pub natural_within : ℕ → Option ℕ → Result ℕ AsmFault
natural_within most None = Err Operand
natural_within most (Some n) = if nat_le n most then Ok n else Err Range

-- a magnitude with a minus, which 0 doesn't have, and one without:
abbrev pub as_negative : Result ℕ AsmFault → Result Number AsmFault
as_negative (Ok n) = if n == 0 then Err Operand else Ok (record { negative = true; magnitude = n })
as_negative (Err fault) = Err fault

abbrev pub as_nonnegative : Result ℕ AsmFault → Result Number AsmFault
as_nonnegative (Ok n) = Ok (record { negative = false; magnitude = n })
as_nonnegative (Err fault) = Err fault

-- the number after a `-`, down to minus `below`: -0 isn't read
unfoldable pub minus_within : ℕ → List ℕ → Result Number AsmFault
minus_within below text = as_negative (natural_within below (natural text))

-- the number after a `+` or no sign, up to `above`
unfoldable pub plus_within : ℕ → List ℕ → Result Number AsmFault
plus_within above text = as_nonnegative (natural_within above (natural text))

-- an immediate: `-` before a negative number alone
unfoldable pub plain_within : ℕ → ℕ → List ℕ → Result Number AsmFault
plain_within below above text =
    if slice_index text 0 == 45 then minus_within below (drop 1 text) else plus_within above text

-- an offset or a distance: with its sign
unfoldable pub signed_within : ℕ → ℕ → List ℕ → Result Number AsmFault
signed_within below above text =
    if slice_index text 0 == 45 then minus_within below (drop 1 text)
    else (if slice_index text 0 == 43 then plus_within above (drop 1 text) else Err Operand)

-- a number from minus `below` to `above`
abbrev pub is_within : ℕ → ℕ → Number → Bool
is_within below above n = if n.negative then nat_le n.magnitude below else nat_le n.magnitude above

-- as a signed number
abbrev pub value_of : Number → ℤ
value_of n = if n.negative then neg_ℤ (pos n.magnitude) else pos n.magnitude
