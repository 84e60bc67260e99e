-- A text as a terminal may have it: in printable ASCII alone.
use Rattle.std.specs.Prelude.{ℕ, ◌/◌, ◌%◌, ◌&&◌, nat_le, Bool, List, [], ◌∷◌, ◌++◌, codes, if◌then◌else◌}
use Rattle.std.specs.List.{flat_map}
use Rattle.std.specs.Char.{digit_char}

-- a letter, a digit or a sign of ASCII, or the space
abbrev pub is_printable : ℕ → Bool
is_printable b = nat_le 0x20 b && nat_le b 0x7e

-- any other byte: `\x` and two hexadecimal digits, in lower case
abbrev pub escape : ℕ → List ℕ
escape b = codes "\\x" ++ digit_char (b / 16) ∷ digit_char (b % 16) ∷ []

-- a byte as it is shown
abbrev pub escaped_byte : ℕ → List ℕ
escaped_byte b = if is_printable b then b ∷ [] else escape b

-- THE TEXT AS IT IS SHOWN, byte by byte.
abbrev pub escaped : List ℕ → List ℕ
escaped text = flat_map escaped_byte text
