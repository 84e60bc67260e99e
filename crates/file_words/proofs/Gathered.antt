-- The words of a line, gathered piece by piece.
use Rattle.std.proofs.Common.{◌≡◌, ◌<◌, ◌+◌, ℕ, suc, List, ◌++◌, length, map, drop, get_or, Bor, sym, ap, ◌∙◌, add-one, append_assoc, drop-cons}
use Rattle.std.proofs.lemmas.List.Concat.{flat_map-cons}
use Rattle.std.specs.List.{flat_map}
use Rattle.file_words.specs.Words.{words_in}

-- words, by those of a piece
pub words_more : (ps : List (Bor (List ℕ))) (i : ℕ) (d : Bor (List ℕ)) (ws grown all : List (List ℕ)) → i < length ps → grown ≡ ws ++ words_in (get_or ps i d).now
    → ws ++ flat_map words_in (map (λ (w : Bor (List ℕ)). w.now) (drop i ps)) ≡ all → grown ++ flat_map words_in (map (λ w. w.now) (drop (i + 1) ps)) ≡ all
words_more ps i d ws grown all h more so_far =
    let text : Bor (List ℕ) → List ℕ = λ w. w.now in
    let left = map text (drop (suc i) ps) in
    ap (λ (g : List (List ℕ)). g ++ flat_map words_in (map text (drop (i + 1) ps))) more
    ∙ ap (λ (k : ℕ). (ws ++ words_in (get_or ps i d).now) ++ flat_map words_in (map text (drop k ps))) (add-one i)
    ∙ append_assoc ws (words_in (get_or ps i d).now) (flat_map words_in left)
    ∙ ap (λ (xs : List (List ℕ)). ws ++ xs) (sym (flat_map-cons words_in (get_or ps i d).now left))
    ∙ ap (λ (qs : List (Bor (List ℕ))). ws ++ flat_map words_in (map text qs)) (sym (drop-cons ps i d h))
    ∙ so_far
