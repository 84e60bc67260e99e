-- What the words of a file of tests spell.
use Rattle.std.specs.Prelude.{◌==◌, ◌&&◌, ◌-◌, ◌^◌, ℕ, Bool, List, [], ◌∷◌, ◌++◌, Option, Some, None, min, take, drop}
use Rattle.std.specs.Prelude.{length, slice_index, option_and_then, option_map, if◌then◌else◌, codes}
use Rattle.std.specs.List.{after_first, before_first, list_any, slice_split}
use Rattle.std.specs.Result.{result_ok}
use Rattle.std.specs.Str.{bytes_eq}
use Rattle.byteorder.specs.Endian.{little_bytes}
use Rattle.hex.specs.Hex.{decode_of}
use Rattle.text_digits.specs.Digits.{is_decimal, value_within}
use Rattle.class_tests.specs.declared.spelled.NumberWidth.{NumberWidth}

-- bytes of a text or of a word
abbrev pub Text : Type 0
Text = List ℕ

-- A NUMBER: decimal digits without a leading zero, at most `most`.
abbrev pub number_within : ℕ → Text → Option ℕ
number_within most word = if is_decimal word then value_within most 10 word else None

-- the bytes that pairs of hexadecimal digits spell
abbrev pub digits_in : Text → Option (List ℕ)
digits_in word = result_ok (decode_of word)

-- the kinds of numbers, by the word before the colon: how many bytes, and the greatest number
abbrev pub width_named : Text → Option NumberWidth
width_named kind =
    if bytes_eq kind (codes "u8") then Some (record { bytes = 1; most = 255 }) else
    if bytes_eq kind (codes "u16") then Some (record { bytes = 2; most = 65535 }) else
    if bytes_eq kind (codes "u32") then Some (record { bytes = 4; most = 4294967295 }) else
    if bytes_eq kind (codes "u64") then Some (record { bytes = 8; most = 18446744073709551615 }) else None

-- a number's bytes, the lowest first
abbrev pub number_bytes : NumberWidth → ℕ → List ℕ
number_bytes width number = take (min width.bytes 8) (little_bytes 8 number)

-- bytes, and after them those of the number that each word spells, if each spells one
abbrev pub with_numbers : NumberWidth → List ℕ → List Text → Option (List ℕ)
with_numbers width bytes [] = Some bytes
with_numbers width bytes (word ∷ words) =
    option_and_then (λ number. with_numbers width (bytes ++ number_bytes width number) words)
    (number_within width.most word)

-- the signs between the parts of a value, after a kind, and between numbers
abbrev pub is_plus : ℕ → Bool
is_plus b = b == 43

abbrev pub is_colon : ℕ → Bool
is_colon b = b == 58

abbrev pub is_comma : ℕ → Bool
is_comma b = b == 44

-- A PART of a value: `text:` and the bytes themselves, `u8:`, `u16:`, `u32:` or `u64:` and numbers
-- between commas, each as so many bytes, the lowest first; or hexadecimal digits, one pair or more.
abbrev pub of_kind : Text → Text → Option (List ℕ)
of_kind kind rest =
    if bytes_eq kind (codes "text") then Some rest else
    option_and_then (λ width. with_numbers width [] (slice_split is_comma rest)) (width_named kind)

abbrev pub digits_part : Text → Option (List ℕ)
digits_part part = if length part == 0 then None else digits_in part

abbrev pub part_in : Text → Option (List ℕ)
part_in part = if list_any is_colon part then of_kind (before_first is_colon part) (after_first is_colon part)
    else digits_part part

-- bytes, and after them those of each part, if each is one
abbrev pub with_parts : List ℕ → List Text → Option (List ℕ)
with_parts bytes [] = Some bytes
with_parts bytes (part ∷ parts) = option_and_then (λ more. with_parts (bytes ++ more) parts) (part_in part)

-- A VALUE: no bytes for `-`, else parts between `+`.
abbrev pub value_in : Text → Option (List ℕ)
value_in word = if bytes_eq word (codes "-") then Some [] else with_parts [] (slice_split is_plus word)

-- A value that may be missing, as `none` says.
abbrev pub held_in : Text → Option (Option (List ℕ))
held_in word = if bytes_eq word (codes "none") then Some None else option_map (λ bytes. Some bytes) (value_in word)

-- A NAME of an xattr or a key: after `0x` in hexadecimal, else as it stands.
abbrev pub name_in : Text → Option (List ℕ)
name_in word = if slice_index word 0 == 48 && slice_index word 1 == 120 then digits_in (drop 2 word) else Some word

-- A CODE: a number below 2 ^ 63, or `-` and one of 1 to 2 ^ 63, as 64 bits in two's complement.
abbrev pub below_zero : ℕ → Option ℕ
below_zero number = if number == 0 then None else Some (2 ^ 64 - number)

abbrev pub code_in : Text → Option ℕ
code_in word = if slice_index word 0 == 45 then option_and_then below_zero (number_within (2 ^ 63) (drop 1 word))
    else number_within (2 ^ 63 - 1) word
