-- A list for each row.
use Rattle.std.specs.Prelude.{ℕ, zero, suc, List, [], ◌∷◌}

module _ {A : Type 0} where
  -- the list of a row, which is empty if the row has none
  abbrev pub list_at : List (List A) → ℕ → List A
  list_at [] i = []
  list_at (x ∷ xs) zero = x
  list_at (x ∷ xs) (suc i) = list_at xs i

  -- the lists with another list for a row
  abbrev pub put_at : List (List A) → ℕ → List A → List (List A)
  put_at [] zero l = l ∷ []
  put_at [] (suc i) l = [] ∷ put_at [] i l
  put_at (x ∷ xs) zero l = l ∷ xs
  put_at (x ∷ xs) (suc i) l = x ∷ put_at xs i l

  -- the longer one of two beginnings of one list
  abbrev pub longer : List A → List A → List A
  longer [] ys = ys
  longer (x ∷ xs) [] = x ∷ xs
  longer (x ∷ xs) (y ∷ ys) = x ∷ longer xs ys

  -- the longer list of each row
  abbrev pub merged : List (List A) → List (List A) → List (List A)
  merged [] ys = ys
  merged (x ∷ xs) [] = x ∷ xs
  merged (x ∷ xs) (y ∷ ys) = longer x y ∷ merged xs ys
