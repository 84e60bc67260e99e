-- Walking a list of the code's own values, as a loop does.
use Rattle.std.proofs.Common.{◌≡◌, ◌∙◌, ℕ, suc, ◌+◌, ◌<◌, ◌≤◌, List, [], ◌∷◌, ap, sym, arith, length, drop, map, get_or, drop-cons}
use Rattle.std.proofs.lemmas.List.{drop_all}

module _ {Y X : Type 0} (view : Y → X) where
  pub next_of : (ys : List Y) (k : ℕ) (d : Y) → k < length ys → map view (drop k ys) ≡ view (get_or ys k d) ∷ map view (drop (k + 1) ys)
  next_of ys k d h =
      let next : k + 1 ≡ suc k = omega arith in
      ap (map view) (drop-cons ys k d h ∙ ap (λ (n : ℕ). get_or ys k d ∷ drop n ys) (sym next))

  pub none_of : (ys : List Y) (k : ℕ) → length ys ≤ k → map view (drop k ys) ≡ []
  none_of ys k h = ap (map view) (drop_all k ys h)
