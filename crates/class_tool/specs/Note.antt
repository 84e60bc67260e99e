-- The note below a failure's line.
use Rattle.std.specs.Prelude.{◌≡◌, ℕ, Bool, true, false, List, [], IsUtf8}

-- none, or a text if one is asked for; that it is right is tested
abbrev pub IsNote : Bool → List ℕ → Type 0
IsNote false note = note ≡ []
IsNote true note = IsUtf8 note
