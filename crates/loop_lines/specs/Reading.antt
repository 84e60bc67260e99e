-- Reading a line from left to right, with the first fault that is met. A word is read whole and tested
-- before the next one.
use Rattle.std.specs.Prelude.{◌≡◌, ◌⊎◌, ℕ, ℤ, ◌+◌, ◌==◌, ◌&&◌, nat_le, Bool, List, [], ◌∷◌, length, drop, slice_index}
use Rattle.std.specs.Prelude.{Option, Some, None, Result, Ok, Err, if◌then◌else◌, codes}
use Rattle.std.specs.List.{slice_split}
use Rattle.std.specs.Option.{option_map}
use Rattle.std.specs.Str.{bytes_eq}
use Rattle.text_digits.specs.Digits.{is_decimal, value_within}
use Rattle.asm_lines.specs.declared.fault.AsmFault.{AsmFault}
use Rattle.asm_lines.specs.declared.fault.AsmFault.TheVariants.{Operand, Range, NoMemory}
use Rattle.asm_lines.specs.Texts.{trim_start, first_word, after_word}
use Rattle.asm_lines.specs.Numbers.{plain_within, value_of}
use Rattle.asm_lines.specs.Operands.{filled, unsigned_of}
use Rattle.loop_heads.specs.declared.place.PlaceKind.{PlaceKind}
use Rattle.loop_heads.specs.declared.place.PlaceKind.TheVariants.{Unset, Any, Unsigned, Signed, Input, Output, Stack}
use Rattle.loop_heads.specs.declared.place.HeadPlace.{HeadPlace}
use Rattle.loop_heads.specs.declared.limits.TheConstants.{BUDGET_LIMIT}
use Rattle.loop_heads.specs.Loops.{is_kind}

-- what the function gives of a value; a fault stays the fault
infixl 10 ◌>>=◌
abbrev pub ◌>>=◌ : {A B : Type 0} → Result A AsmFault → (A → Result B AsmFault) → Result B AsmFault
(Ok x) >>= f = f x
(Err e) >>= f = Err e

-- x if the test holds, else that fault
abbrev pub checked : {A : Type 0} → Bool → AsmFault → A → Result A AsmFault
checked test fault x = if test then Ok x else Err fault

-- x if no word is left
abbrev pub at_end : {A : Type 0} → List ℕ → A → Result A AsmFault
at_end rest x = checked (length rest == 0) Operand x

-- ---- numbers of 64 bits, without a sign and with one

abbrev pub unsigned_64 : List ℕ → Result ℕ AsmFault
unsigned_64 word = unsigned_of 18446744073709551615 word

unfoldable pub signed_64 : List ℕ → Result ℤ AsmFault
signed_64 word = filled value_of (plain_within 9223372036854775808 9223372036854775807 word)

-- ---- a budget

-- what stands after `.budget`: 1 to `BUDGET_LIMIT`
unfoldable pub budget_of : List ℕ → Result ℕ AsmFault
budget_of text = do
  budget ← unsigned_64 (first_word text)
  known ← checked (nat_le 1 budget && nat_le budget BUDGET_LIMIT) Range budget
  at_end (after_word text) known

-- ---- a place

-- decimal digits without a leading zero, up to `most`
abbrev pub decimal_within : ℕ → List ℕ → Option ℕ
decimal_within most digits = if is_decimal digits then value_within most 10 digits else None

-- the number of a place by its name
unfoldable pub place_named : List ℕ → Option ℕ
place_named word =
    if slice_index word 0 == 114 then decimal_within 9 (drop 1 word)
    else (if slice_index word 0 == 115 then option_map (λ n. n + 11) (decimal_within 63 (drop 1 word)) else None)

-- it is at least `least`
abbrev pub number_from : ℕ → Option ℕ → Result ℕ AsmFault
number_from least None = Err Operand
number_from least (Some n) = checked (nat_le least n) Operand n

-- two numbers
abbrev pub pair_of : {N : Type 0} → (List ℕ → Result N AsmFault) → List ℕ → Result (N × N) AsmFault
pair_of read text = do
  a ← read (first_word text)
  b ← read (first_word (after_word text))
  Ok (a, b)

-- a kind whose bounds, which are in order, are all that the text has
abbrev pub bounded : PlaceKind → List ℕ → Result PlaceKind AsmFault
bounded kind text = do
  ordered ← checked (is_kind kind) Range kind
  at_end (after_word (after_word text)) ordered

-- a kind with bounds, and one of numbers without a sign
abbrev pub bounds_of : {N : Type 0} → (List ℕ → Result N AsmFault) → (N → N → PlaceKind) → List ℕ →
    Result PlaceKind AsmFault
bounds_of read kind text = pair_of read text >>= λ p. bounded (kind p.0 p.1) text

abbrev pub offsets_of : (ℕ → ℕ → PlaceKind) → List ℕ → Result PlaceKind AsmFault
offsets_of kind text = bounds_of unsigned_64 kind text

-- what is declared of a place, by its first word and what stands after it
unfoldable pub kind_of : List ℕ → Result PlaceKind AsmFault
kind_of text =
    if bytes_eq (first_word text) (codes "unset") then at_end (after_word text) Unset
    else (if bytes_eq (first_word text) (codes "any") then at_end (after_word text) Any
    else (if bytes_eq (first_word text) (codes "signed") then bounds_of signed_64 Signed (after_word text)
    else (if bytes_eq (first_word text) (codes "in") then offsets_of Input (after_word text)
    else (if bytes_eq (first_word text) (codes "out") then offsets_of Output (after_word text)
    else (if bytes_eq (first_word text) (codes "stack") then offsets_of Stack (after_word text)
    else offsets_of Unsigned text)))))

-- a place, with a number that is at least `least`
unfoldable pub place_of : ℕ → List ℕ → Result HeadPlace AsmFault
place_of least text = do
  number ← number_from least (place_named (first_word text))
  kind ← kind_of (after_word text)
  Ok (record { number = number; kind = kind })

-- ---- a head

-- places by rising numbers, each in a text that may begin with blanks
unfoldable pub places_from : ℕ → List (List ℕ) → Result (List HeadPlace) AsmFault
places_from least [] = Ok []
places_from least (t ∷ ts) =
    place_of least (trim_start t) >>= λ p. places_from (p.number + 1) ts >>= λ ps. Ok (p ∷ ps)

-- what stands after `.head`: nothing, or places with commas between them
unfoldable pub places_of : List ℕ → Result (List HeadPlace) AsmFault
places_of text = if length text == 0 then Ok [] else places_from 0 (slice_split (λ c. c == 44) text)

-- ---- what code returns

-- What a function returned, seen by view, is what reading gives, unless memory ran out.
abbrev pub Gives : {X Y : Type 0} → (X → Y) → Result X AsmFault → Result Y AsmFault → Type 0
Gives view (Ok x) read = read ≡ Ok (view x)
Gives view (Err e) read = (e ≡ NoMemory) ⊎ (read ≡ Err e)
