-- The lines of a text, the words of a line, and what a word spells.
use Rattle.std.specs.Prelude.{ℕ, suc, ◌-◌, ◌^◌, ◌==◌, ◌&&◌, nat_le, nat_lt, not, min, Bool, List, [], ◌∷◌, length}
use Rattle.std.specs.Prelude.{slice_index_or, take, Option, Some, None, if◌then◌else◌, codes}
use Rattle.std.specs.List.{slice_split, flat_map, filter}
use Rattle.std.specs.Option.{option_and_then}
use Rattle.std.specs.Result.{result_ok}
use Rattle.text_digits.specs.Digits.{is_decimal}
use Rattle.std.specs.Str.{bytes_eq}
use Rattle.std.specs.Str.Parse.{digits_value}
use Rattle.hex.specs.Hex.{decode_of}

-- LINES: what stands between line feeds, so that an empty one may be the last.
abbrev pub lines_of : List ℕ → List (List ℕ)
lines_of text = slice_split (λ b. b == 10) text

-- the lines of a text whose last line may end with a line feed too: no line stands after that
abbrev pub ends_empty : List (List ℕ) → Bool
ends_empty lines = nat_lt 1 (length lines) && (length (slice_index_or lines (length lines - 1) []) == 0)

-- the lines without an empty one at the end
abbrev pub without_empty_end : List (List ℕ) → List (List ℕ)
without_empty_end lines = if ends_empty lines then take (length lines - 1) lines else lines

abbrev pub ended_lines_of : List ℕ → List (List ℕ)
ended_lines_of text = without_empty_end (lines_of text)

-- WORDS of a line: what stands between spaces and tabs, if anything does.
abbrev pub words_in : List ℕ → List (List ℕ)
words_in piece = filter (λ w. not (length w == 0)) (slice_split (λ b. b == 9) piece)

-- by spaces first, and then by tabs
abbrev pub words : List ℕ → List (List ℕ)
words line = flat_map words_in (slice_split (λ b. b == 32) line)

-- NUMBERS: one decimal digit or more, without a leading zero, and nothing else. One above 2 ^ 64 -
-- 1 counts as that: no node, map, message, client or request has it.
abbrev pub number_in : List ℕ → Option ℕ
number_in word = if is_decimal word then Some (min (digits_value 10 word) (2 ^ 64 - 1)) else None

-- each word's number, if each is one
abbrev pub onto : ℕ → Option (List ℕ) → Option (List ℕ)
onto n None = None
onto n (Some ns) = Some (n ∷ ns)

-- one number more in front
abbrev pub before : Option ℕ → Option (List ℕ) → Option (List ℕ)
before None ns = None
before (Some n) ns = onto n ns

-- the numbers of words
abbrev pub numbers_in : List (List ℕ) → Option (List ℕ)
numbers_in [] = Some []
numbers_in (word ∷ words) = before (number_in word) (numbers_in words)

-- a client's or a request's number: 1 to 2 ^ 32 - 1
abbrev pub id_in : List ℕ → Option ℕ
id_in word = option_and_then (λ n. if nat_le 1 n && nat_lt n (2 ^ 32) then Some n else None) (number_in word)

-- AN OBJECT'S NAME: 1 to 255 bytes.
abbrev pub object_in : List ℕ → Option (List ℕ)
object_in word = if nat_le 1 (length word) && nat_le (length word) 255 then Some word else None

-- BYTES: pairs of hexadecimal digits, or `-` for none.
abbrev pub bytes_in : List ℕ → Option (List ℕ)
bytes_in word = if bytes_eq word (codes "-") then Some [] else result_ok (decode_of word)

-- THE ID OF A CLASS by its name: its place among the names, from one on, or 64, which no class has.
abbrev pub class_of : ℕ → List (List ℕ) → List ℕ → ℕ
class_of id [] word = 64
class_of id (name ∷ names) word = if bytes_eq name word then id else class_of (suc id) names word
