-- The key that is looked up.
use Rattle.std.specs.Prelude.{ℕ, List, [], ◌∷◌}

-- the number 512 in two bytes, the high one first
abbrev pub key_512 : List ℕ
key_512 = 2 ∷ 0 ∷ []
