-- The methods that `pack` is given, each spelled `NAME:FLAGS:IN:OUT:FILE`.
use Rattle.std.specs.Prelude.{◌≡◌, ◌==◌, ◌<◌, ◌^◌, ⊤, ℕ, Bool, true, List, [], ◌∷◌, Option, Some}
use Rattle.std.specs.List.{after_first, before_first, list_any}
use Rattle.file_words.specs.Words.{number_in}
use Rattle.asm_lines.specs.Statements.{flags_of}
use Rattle.command_line.specs.Parsed.{Text}
use Rattle.class_tool.specs.declared.action.RawMethod.{RawMethod}

-- a `:`
abbrev pub is_colon : ℕ → Bool
is_colon b = b == 58

-- a field ends with the first `:`, and the other fields follow it
abbrev pub has_field : Text → Bool
has_field text = list_any is_colon text

-- a text's first field, and the text after it:
abbrev pub field_in : Text → Text
field_in text = before_first is_colon text

abbrev pub after_field : Text → Text
after_field text = after_first is_colon text

-- the flags that a word names, as in a class's text
abbrev pub flags_in : Text → Option ℕ
flags_in text = flags_of text

-- a text spells that number of 16 bits
pub record IsShort (text : Text) (n : ℕ) : Type 0 where
  pub number : number_in text ≡ Some n
  pub short : n < 2 ^ 16

-- the file of a method's code
abbrev pub code_in : Text → Text
code_in text = after_field (after_field (after_field (after_field text)))

-- the capacity that a text begins with, and the rest of the text
pub record IsCapacity (text : Text) (n : ℕ) : Type 0 where
  pub ends : has_field text ≡ true
  pub number : IsShort (field_in text) n

-- a text spells that method: the file of its code is all text after the fourth `:`
pub record IsRaw (text : Text) (m : RawMethod) : Type 0 where
  pub name_ends : has_field text ≡ true
  pub name : m.name.now ≡ field_in text
  pub flags_end : has_field (after_field text) ≡ true
  pub flags : flags_in (field_in (after_field text)) ≡ Some m.flags
  pub in_cap : IsCapacity (after_field (after_field text)) m.in_cap
  pub out_cap : IsCapacity (after_field (after_field (after_field text))) m.out_cap
  pub code : m.code.now ≡ code_in text

-- the texts spell those methods, in their order
abbrev pub AreRaw : List Text → List RawMethod → Type 0
AreRaw [] [] = ⊤
AreRaw [] (m ∷ ms) = ⊥
AreRaw (text ∷ texts) [] = ⊥
AreRaw (text ∷ texts) (m ∷ ms) = IsRaw text m × AreRaw texts ms
