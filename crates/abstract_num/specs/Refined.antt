-- What a refinement of two values gives.
use Rattle.std.specs.Prelude.{◌≡◌, Bool, true, false, Option, MatchOption}

-- none if the test says that nothing is left, and else two values of which P holds
abbrev pub IsRefined : {A : Type 0} → Bool → (A → Type 0) → Option A → Type 0
IsRefined empty P r = MatchOption r (empty ≡ true) (λ s. (empty ≡ false) × P s)
