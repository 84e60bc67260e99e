-- The canonical text of a budget's line and of a head's.
use Rattle.std.specs.Prelude.{◌<◌, ◌^◌, ◌-◌, ℕ, List, [], ◌∷◌, ◌++◌, IsTrue, nat_le, if◌then◌else◌, codes, FitsSigned}
use Rattle.std.specs.Int.{w64}
use Rattle.std.specs.List.{flat_map, AllByRecursion}
use Rattle.std.specs.Fmt.{decimal, signed_decimal}
use Rattle.loop_heads.specs.declared.place.PlaceKind.{PlaceKind}
use Rattle.loop_heads.specs.declared.place.PlaceKind.TheVariants.{Unset, Any, Unsigned, Signed, Input, Output, Stack}
use Rattle.loop_heads.specs.declared.place.HeadPlace.{HeadPlace}
use Rattle.loop_heads.specs.Loops.{are_places}

-- a place's name: `r` and a register's number, or `s` and the number of a slot of the stack, from its
-- first byte on
abbrev pub place_name : ℕ → List ℕ
place_name n = if nat_le n 9 then codes "r" ++ decimal n else codes "s" ++ decimal (n - 11)

-- the first and the last number
abbrev pub bounds_text : ℕ → ℕ → List ℕ
bounds_text a b = decimal a ++ (codes " " ++ decimal b)

-- what is declared of a place
abbrev pub kind_text : PlaceKind → List ℕ
kind_text Unset = codes "unset"
kind_text Any = codes "any"
kind_text (Unsigned a b) = bounds_text a b
kind_text (Signed a b) = codes "signed " ++ (signed_decimal a ++ (codes " " ++ signed_decimal b))
kind_text (Input a b) = codes "in " ++ bounds_text a b
kind_text (Output a b) = codes "out " ++ bounds_text a b
kind_text (Stack a b) = codes "stack " ++ bounds_text a b

-- a place with it
abbrev pub place_text : HeadPlace → List ℕ
place_text p = place_name p.number ++ (codes " " ++ kind_text p.kind)

-- places that follow others
abbrev pub more_text : List HeadPlace → List ℕ
more_text ps = flat_map (λ p. codes ", " ++ place_text p) ps

-- places, with a comma and a space between them
abbrev pub places_text : List HeadPlace → List ℕ
places_text [] = []
places_text (p ∷ ps) = place_text p ++ more_text ps

-- a head's line, and a budget's, without their ends
abbrev pub head_line : List HeadPlace → List ℕ
head_line [] = codes ".head"
head_line (p ∷ ps) = codes ".head " ++ places_text (p ∷ ps)

abbrev pub budget_line : ℕ → List ℕ
budget_line budget = codes ".budget " ++ decimal budget

-- ---- what may be declared

-- bounds of 64 bits
abbrev pub HasBits : PlaceKind → Type 0
HasBits Unset = Unit {0}
HasBits Any = Unit {0}
HasBits (Unsigned a b) = (a < 2 ^ 64) × (b < 2 ^ 64)
HasBits (Signed a b) = FitsSigned w64 a × FitsSigned w64 b
HasBits (Input a b) = (a < 2 ^ 64) × (b < 2 ^ 64)
HasBits (Output a b) = (a < 2 ^ 64) × (b < 2 ^ 64)
HasBits (Stack a b) = (a < 2 ^ 64) × (b < 2 ^ 64)

-- the places of a head, by rising numbers
pub record ArePlaces (ps : List HeadPlace) : Type 0 where
  pub places : IsTrue (are_places 0 ps)
  pub bits : AllByRecursion (λ p. HasBits p.kind) ps
