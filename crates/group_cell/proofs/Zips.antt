-- Lists that grow by one element or one pair, and a list of which nothing is left.
use Rattle.std.proofs.Common.{◌≡◌, List, [], ◌∷◌, ◌++◌, length, refl, arith}
use Rattle.std.specs.List.{AllZip, AllByRecursion}

module _ {A B : Type 0} where
  pub AllZip-more : (R : A → B → Type 0) (xs : List A) (ys : List B) (x : A) (y : B) → AllZip R xs ys → R x y → AllZip R (xs ++ x ∷ []) (ys ++ y ∷ [])
  AllZip-more R [] [] x y h r = (r, tt)
  AllZip-more R [] (b ∷ ys) x y h r = absurd h
  AllZip-more R (a ∷ xs) [] x y h r = absurd h
  AllZip-more R (a ∷ xs) (b ∷ ys) x y h r = (h.0, AllZip-more R xs ys x y h.1 r)

module _ {A : Type 0} where
  pub All-more : (P : A → Type 0) (xs : List A) (x : A) → AllByRecursion P xs → P x → AllByRecursion P (xs ++ x ∷ [])
  All-more P [] x all p = (p, tt)
  All-more P (y ∷ ys) x all p = (all.0, All-more P ys x all.1 p)

  pub nothing_left : (xs : List A) → length xs ≡ 0 → xs ≡ []
  nothing_left [] h = refl
  nothing_left (x ∷ xs) h = absurd (omega arith)
