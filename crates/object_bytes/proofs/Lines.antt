-- What is written of the first entries of a list, one after the other.
use Rattle.std.proofs.Common.{◌≡◌, ◌∙◌, ◌+◌, ℕ, zero, suc, List, [], ◌∷◌, ◌++◌, Some, None, refl, ap, sym, arith, take}
use Rattle.std.specs.Prelude.{slice_get}
use Rattle.std.specs.List.{flat_map}
use Rattle.std.proofs.lemmas.List.{append-nil, append_assoc}
use Rattle.std.proofs.lemmas.Option.{none-some, same_Some}

module _ {A : Type 0} (f : A → List ℕ) where
  one_more : (es : List A) (n : ℕ) (e : A) → slice_get es n ≡ Some e → flat_map f (take (suc n) es) ≡ flat_map f (take n es) ++ f e
  one_more [] n e at = absurd (none-some e at)
  one_more (x ∷ es) zero e at = append-nil (f x) ∙ ap f (same_Some x e at)
  one_more (x ∷ es) (suc n) e at = ap (λ more. f x ++ more) (one_more es n e at) ∙ sym (append_assoc (f x) (flat_map f (take n es)) (f e))

  none_more : (es : List A) (n : ℕ) → slice_get es n ≡ None → flat_map f (take (suc n) es) ≡ flat_map f (take n es)
  none_more [] zero at = refl
  none_more [] (suc n) at = refl
  none_more (x ∷ es) zero at = absurd (none-some x (sym at))
  none_more (x ∷ es) (suc n) at = ap (λ more. f x ++ more) (none_more es n at)

  -- the next entry
  pub lines_more : (es : List A) (n : ℕ) (e : A) → slice_get es n ≡ Some e → flat_map f (take (n + 1) es) ≡ flat_map f (take n es) ++ f e
  lines_more es n e at = let one : n + 1 ≡ suc n = omega arith in ap (λ k. flat_map f (take k es)) one ∙ one_more es n e at

  -- past the last
  pub lines_over : (es : List A) (n : ℕ) → slice_get es n ≡ None → flat_map f (take (n + 1) es) ≡ flat_map f (take n es)
  lines_over es n at = let one : n + 1 ≡ suc n = omega arith in ap (λ k. flat_map f (take k es)) one ∙ none_more es n at
