-- Elements of lists that are longer or shorter, by place.
use Rattle.std.proofs.Common.{◌≡◌, ℕ, zero, suc, ◌<◌, List, [], ◌∷◌, ◌++◌, length, Some, refl, ap, sym, ◌∙◌, arith, take, drop, ◌+◌, add-one, ◌⊎◌, inl, inr, ⊎_elim}
use Rattle.std.specs.List.{slice_get}
use Rattle.std.proofs.lemmas.Option.{none-some, same_Some, slice_get_within, get_or_from_slice_get}
use Rattle.std.proofs.lemmas.List.{take_more}

module _ {X : Type 0} where
  pub get_before : (xs ys : List X) (k : ℕ) → k < length xs → slice_get (xs ++ ys) k ≡ slice_get xs k
  get_before [] ys k h = absurd (omega arith)
  get_before (x ∷ xs) ys zero h = refl
  get_before (x ∷ xs) ys (suc k) h = get_before xs ys k (omega arith)

  pub get_last : (xs : List X) (x : X) → slice_get (xs ++ x ∷ []) (length xs) ≡ Some x
  get_last [] x = refl
  get_last (y ∷ xs) x = get_last xs x

  -- an element of a list with one more at the end
  pub get_push : (xs : List X) (x a : X) (i : ℕ) → slice_get (xs ++ x ∷ []) i ≡ Some a → ((i < length xs) × (slice_get xs i ≡ Some a)) ⊎ ((i ≡ length xs) × (a ≡ x))
  get_push [] x a zero e = inr (refl, sym (same_Some x a e))
  get_push [] x a (suc i) e = absurd (none-some a e)
  get_push (y ∷ xs) x a zero e = inl (omega arith, e)
  get_push (y ∷ xs) x a (suc i) e =
      ⊎_elim (λ h. inl (omega (arith, h.0), h.1)) (λ h. inr (ap suc h.0, h.1)) (get_push xs x a i e)

  -- an element of a beginning
  pub get_take : (xs : List X) (n i : ℕ) (a : X) → slice_get (take n xs) i ≡ Some a → slice_get xs i ≡ Some a
  get_take [] zero i a e = e
  get_take [] (suc n) i a e = e
  get_take (x ∷ xs) zero i a e = absurd (none-some a e)
  get_take (x ∷ xs) (suc n) zero a e = e
  get_take (x ∷ xs) (suc n) (suc i) a e = get_take xs n i a e

  pub take_get : (xs : List X) (k : ℕ) (x : X) → slice_get xs k ≡ Some x → take (k + 1) xs ≡ take k xs ++ x ∷ []
  take_get xs k x e = take_more xs k x (slice_get_within xs k x e) ∙ ap (λ w. take k xs ++ w ∷ []) (get_or_from_slice_get xs k x x e)

  drop_suc : (xs : List X) (k : ℕ) (x : X) → slice_get xs k ≡ Some x → drop k xs ≡ x ∷ drop (suc k) xs
  drop_suc [] k x e = absurd (none-some x e)
  drop_suc (y ∷ xs) zero x e = ap (λ w. w ∷ xs) (same_Some y x e)
  drop_suc (y ∷ xs) (suc k) x e = drop_suc xs k x e

  pub drop_get : (xs : List X) (k : ℕ) (x : X) → slice_get xs k ≡ Some x → drop k xs ≡ x ∷ drop (k + 1) xs
  drop_get xs k x e = drop_suc xs k x e ∙ ap (λ n. x ∷ drop n xs) (sym (add-one k))
