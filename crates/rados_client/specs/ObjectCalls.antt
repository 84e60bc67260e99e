-- The form of an input of the class `obj`.
use Rattle.std.specs.Prelude.{ℕ, ◌++◌, ◌∷◌, List, length, min}

-- a byte with the name's length, at most 255, the name and the value
abbrev pub attr_input : List ℕ → List ℕ → List ℕ
attr_input name value = (min (length name) 255 ∷ name) ++ value
