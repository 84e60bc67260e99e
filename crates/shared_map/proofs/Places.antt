-- Entries by their place.
use Rattle.std.proofs.Common.{◌≡◌, ℕ, suc, ◌-◌, ◌<◌, List, [], ◌∷◌, length, Some, refl, arith}
use Rattle.std.specs.List.{slice_get}

module _ {X : Type 0} where
  -- lists of one length with the same elements are equal
  pub same_places : (xs ys : List X) → length xs ≡ length ys → ((k : ℕ) → k < length xs → slice_get xs k ≡ slice_get ys k) → xs ≡ ys
  same_places [] [] e f = refl
  same_places [] (y ∷ ys) e f = absurd (omega arith)
  same_places (x ∷ xs) [] e f = absurd (omega arith)
  same_places (x ∷ xs) (y ∷ ys) e f =
      let head : Some x ≡ Some y = f 0 (omega arith) in
      let tail : xs ≡ ys = same_places xs ys (omega arith) (λ k h. f (suc k) (omega arith)) in
      cc (head, tail)
