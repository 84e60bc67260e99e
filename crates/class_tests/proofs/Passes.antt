-- TestBytes of which none is a sign.
use Rattle.std.proofs.Common.{◌≡◌, ◌+◌, Bool, true, false, List, [], ◌∷◌, length, arith, refl}
use Rattle.std.specs.List.{list_any, position_or_len}

-- if no element before the end passes, no element passes
pub none_passes : {X : Type 0} (p : X → Bool) (xs : List X) → position_or_len p xs ≡ length xs → list_any p xs ≡ false
none_passes p [] same = refl
none_passes p (x ∷ xs) same = go (p x) refl (none_passes p xs)
  where
    go : (b : Bool) → p x ≡ b → (position_or_len p xs ≡ length xs → list_any p xs ≡ false) → list_any p (x ∷ xs) ≡ false
    go true e rest = let bad : position_or_len p (x ∷ xs) ≡ 0 = rw e refl in absurd (omega (arith, bad, same))
    go false e rest =
        let more : position_or_len p (x ∷ xs) ≡ 1 + position_or_len p xs = rw e refl in
        rw e (rest (omega (arith, more, same)))
