-- The words of a line, by the first of them, and six words.
use Rattle.std.proofs.Common.{◌≡◌, ◌≤◌, ◌<◌, ◌-◌, ℕ, List, [], ◌∷◌, None, length, map, take, drop, get_or, Bor, refl, sym, ap, arith}
use Rattle.sim_world.specs.Lines.{request_of}
use Rattle.std.proofs.lemmas.List.{take_rest}

-- words, by the first of them and those after it
pub first_word : (ws : List (Bor (List ℕ))) (d : Bor (List ℕ)) → 1 ≤ length ws
    → map (λ (w : Bor (List ℕ)). w.now) ws ≡ (get_or ws 0 d).now ∷ map (λ w. w.now) (take (length ws - 1) (drop 1 ws))
first_word [] d h = absurd (omega arith)
first_word (w ∷ ws) d h = ap (λ (xs : List (Bor (List ℕ))). w.now ∷ map (λ (v : Bor (List ℕ)). v.now) xs) (sym (take_rest (w ∷ ws) 1))

-- six words
pub six_words : (ws : List (Bor (List ℕ))) (d : Bor (List ℕ)) → 6 ≤ length ws → length ws < 7
    → map (λ (w : Bor (List ℕ)). w.now) ws ≡ (get_or ws 0 d).now ∷ (get_or ws 1 d).now ∷ (get_or ws 2 d).now ∷ (get_or ws 3 d).now ∷ (get_or ws 4 d).now ∷ (get_or ws 5 d).now ∷ []
six_words [] d h k = absurd (omega arith)
six_words (a ∷ []) d h k = absurd (omega arith)
six_words (a ∷ b ∷ []) d h k = absurd (omega arith)
six_words (a ∷ b ∷ c ∷ []) d h k = absurd (omega arith)
six_words (a ∷ b ∷ c ∷ e ∷ []) d h k = absurd (omega arith)
six_words (a ∷ b ∷ c ∷ e ∷ f ∷ []) d h k = absurd (omega arith)
six_words (a ∷ b ∷ c ∷ e ∷ f ∷ g ∷ []) d h k = refl
six_words (a ∷ b ∷ c ∷ e ∷ f ∷ g ∷ w ∷ ws) d h k = absurd (omega arith)

-- other words than six spell no request
pub not_six : (names : List (List ℕ)) (ws : List (Bor (List ℕ))) → (length ws ≡ 6 → ⊥) → None ≡ request_of names (map (λ (w : Bor (List ℕ)). w.now) ws)
not_six names [] h = refl
not_six names (a ∷ []) h = refl
not_six names (a ∷ b ∷ []) h = refl
not_six names (a ∷ b ∷ c ∷ []) h = refl
not_six names (a ∷ b ∷ c ∷ e ∷ []) h = refl
not_six names (a ∷ b ∷ c ∷ e ∷ f ∷ []) h = refl
not_six names (a ∷ b ∷ c ∷ e ∷ f ∷ g ∷ []) h = absurd (h refl)
not_six names (a ∷ b ∷ c ∷ e ∷ f ∷ g ∷ w ∷ ws) h = refl
