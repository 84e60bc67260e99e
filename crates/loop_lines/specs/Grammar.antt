-- What a budget's and a head's text are, as relations: every spelling, and no step of the reading.
use Rattle.std.specs.Prelude.{◌≡◌, ◌≤◌, ◌==◌, ℕ, List, [], ◌∷◌, Some, Result, Ok, IsTrue, codes}
use Rattle.std.specs.List.{slice_split}
use Rattle.asm_lines.specs.declared.fault.AsmFault.{AsmFault}
use Rattle.asm_lines.specs.Texts.{trim_start, first_word, after_word}
use Rattle.loop_heads.specs.declared.place.PlaceKind.{PlaceKind}
use Rattle.loop_heads.specs.declared.place.PlaceKind.TheVariants.{Unset, Any, Unsigned, Signed, Input, Output, Stack}
use Rattle.loop_heads.specs.declared.place.HeadPlace.{HeadPlace}
use Rattle.loop_heads.specs.declared.limits.TheConstants.{BUDGET_LIMIT}
use Rattle.loop_heads.specs.Loops.{are_places}
use Rattle.loop_lines.specs.Reading.{unsigned_64, signed_64, place_named}

-- the words of a text, parted by blanks
abbrev pub HasWords : List ℕ → List (List ℕ) → Type 0
HasWords text [] = text ≡ []
HasWords text (w ∷ ws) = (first_word text ≡ w) × HasWords (after_word text) ws

-- two words that spell these numbers
pub record HasBounds {N : Type 0} (read : List ℕ → Result N AsmFault) (a b : N) (text : List ℕ) : Type 0 where
  pub first : List ℕ
  pub second : List ℕ
  pub words : HasWords text (first ∷ second ∷ [])
  pub is_first : read first ≡ Ok a
  pub is_second : read second ≡ Ok b

-- a word and two such words
abbrev pub HasOffsets : List ℕ → ℕ → ℕ → List ℕ → Type 0
HasOffsets word a b text = (first_word text ≡ word) × HasBounds unsigned_64 a b (after_word text)

-- what is declared of a place
abbrev pub IsKindText : PlaceKind → List ℕ → Type 0
IsKindText Unset text = HasWords text (codes "unset" ∷ [])
IsKindText Any text = HasWords text (codes "any" ∷ [])
IsKindText (Unsigned a b) text = HasBounds unsigned_64 a b text
IsKindText (Signed a b) text = (first_word text ≡ codes "signed") × HasBounds signed_64 a b (after_word text)
IsKindText (Input a b) text = HasOffsets (codes "in") a b text
IsKindText (Output a b) text = HasOffsets (codes "out") a b text
IsKindText (Stack a b) text = HasOffsets (codes "stack") a b text

-- a place
pub record IsPlaceText (p : HeadPlace) (text : List ℕ) : Type 0 where
  pub name : place_named (first_word text) ≡ Some p.number
  pub kind : IsKindText p.kind (after_word text)

-- a place each
abbrev pub ArePlaceTexts : List HeadPlace → List (List ℕ) → Type 0
ArePlaceTexts [] [] = Unit {0}
ArePlaceTexts [] (t ∷ ts) = ⊥
ArePlaceTexts (p ∷ ps) [] = ⊥
ArePlaceTexts (p ∷ ps) (t ∷ ts) = IsPlaceText p (trim_start t) × ArePlaceTexts ps ts

-- nothing, or places with commas between them
abbrev pub SaysPlaces : List HeadPlace → List ℕ → Type 0
SaysPlaces ps [] = ps ≡ []
SaysPlaces ps (c ∷ cs) = ArePlaceTexts ps (slice_split (λ b. b == 44) (c ∷ cs))

-- What stands after `.head`: places that may be declared of a head.
pub record IsHeadText (ps : List HeadPlace) (text : List ℕ) : Type 0 where
  pub says : SaysPlaces ps text
  pub right : IsTrue (are_places 0 ps)

-- What stands after `.budget`.
pub record IsBudgetText (n : ℕ) (text : List ℕ) : Type 0 where
  pub word : List ℕ
  pub words : HasWords text (word ∷ [])
  pub spelled : unsigned_64 word ≡ Ok n
  pub some : 1 ≤ n
  pub most : n ≤ BUDGET_LIMIT
