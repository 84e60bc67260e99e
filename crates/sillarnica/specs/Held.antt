-- Whether a handle holds a class.
use Rattle.std.specs.Prelude.{ℕ, Option, Some, None}

-- it holds one
abbrev pub IsHeld : {A : Type 0} → Option A → Type 0
IsHeld None = ⊥
IsHeld (Some x) = Unit {0}

-- what C sees of that
abbrev pub open_number : {A : Type 0} → Option A → ℕ
open_number None = 0
open_number (Some x) = 1
