-- Lines, words and operands: how a text is cut.
use Rattle.std.specs.Prelude.{ℕ, ◌==◌, ◌&&◌, ◌||◌, nat_lt, Bool, false, List, [], ◌∷◌, length, drop, slice_index}
use Rattle.std.specs.Prelude.{Option, Some, None, is_some, if◌then◌else◌}
use Rattle.std.specs.List.{position_or_len, before_first, after_first}
use Rattle.std.specs.Option.{option_map, option_and_then}
use Rattle.bpf_decode.specs.Limits.{between, are_name_bytes}

-- a space or a tab
abbrev pub is_blank : ℕ → Bool
is_blank c = c == 32 || c == 9

-- a text without the blanks at its start
unfoldable pub trim_start : List ℕ → List ℕ
trim_start [] = []
trim_start (c ∷ cs) = if is_blank c then trim_start cs else (c ∷ cs)

-- a byte before a text that was cut off at its end
abbrev pub onto_trimmed : ℕ → List ℕ → List ℕ
onto_trimmed c [] = if is_blank c then [] else (c ∷ [])
onto_trimmed c (x ∷ xs) = c ∷ x ∷ xs

-- a text without the blanks at its end
unfoldable pub trim_end : List ℕ → List ℕ
trim_end [] = []
trim_end (c ∷ cs) = onto_trimmed c (trim_end cs)

-- a text without the blanks at its ends
unfoldable pub trim : List ℕ → List ℕ
trim text = trim_end (trim_start text)

-- what stands on a line: all before a `;`, without the blanks at its ends
unfoldable pub content : List ℕ → List ℕ
content line = trim (before_first (λ c. c == 59) line)

-- the first word, and what stands after it and its blanks
unfoldable pub first_word : List ℕ → List ℕ
first_word text = before_first is_blank text

unfoldable pub after_word : List ℕ → List ℕ
after_word text = trim_start (drop (length (before_first is_blank text)) text)

-- the text before and after the first comma, if there is one
unfoldable pub cut : List ℕ → Option (List ℕ × List ℕ)
cut text =
    if nat_lt (position_or_len (λ c. c == 44) text) (length text)
    then Some (before_first (λ c. c == 44) text, after_first (λ c. c == 44) text) else None

-- one operand, and two and three with commas between them; blanks may stand around each
unfoldable pub lone : List ℕ → Option (List ℕ)
lone text = if is_some (cut text) then None else Some (trim text)

unfoldable pub pair : List ℕ → Option (List ℕ × List ℕ)
pair text = option_and_then (λ p. option_map (λ b. (trim p.0, b)) (lone p.1)) (cut text)

unfoldable pub triple : List ℕ → Option (List ℕ × List ℕ × List ℕ)
triple text = option_and_then (λ p. option_map (λ r. (trim p.0, r.0, r.1)) (pair p.1)) (cut text)

-- the name of a label: a letter, then letters, digits and `_`
unfoldable pub is_label_name : List ℕ → Bool
is_label_name text = if length text == 0 then false else (between 97 122 (slice_index text 0) && are_name_bytes text)
