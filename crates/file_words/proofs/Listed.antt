-- The numbers of words, read one after another.
use Rattle.std.proofs.Common.{◌≡◌, ◌<◌, ℕ, suc, List, [], ◌∷◌, ◌++◌, length, map, drop, get_or, Bor, Option, Some, None, refl, sym, ap, ◌∙◌, append_assoc, drop-cons}
use Rattle.file_words.specs.Words.{before, number_in, numbers_in, onto}

-- numbers before those
abbrev pub with_all : List ℕ → Option (List ℕ) → Option (List ℕ)
with_all ns None = None
with_all ns (Some ms) = Some (ns ++ ms)

with_one_more : (ns : List ℕ) (n : ℕ) (rest : Option (List ℕ)) → with_all (ns ++ n ∷ []) rest ≡ with_all ns (onto n rest)
with_one_more ns n None = refl
with_one_more ns n (Some ms) = ap Some (append_assoc ns (n ∷ []) ms)

-- the next word is read, whatever it gives
next_read : (ws : List (Bor (List ℕ))) (i : ℕ) (d : Bor (List ℕ)) (ns : List ℕ) (o : Option ℕ) → i < length ws → o ≡ number_in (get_or ws i d).now
    → with_all ns (before o (numbers_in (map (λ (w : Bor (List ℕ)). w.now) (drop (suc i) ws)))) ≡ with_all ns (numbers_in (map (λ w. w.now) (drop i ws)))
next_read ws i d ns o h is =
    let rest = numbers_in (map (λ (w : Bor (List ℕ)). w.now) (drop (suc i) ws)) in
    ap (λ (p : Option ℕ). with_all ns (before p rest)) is
    ∙ ap (λ (l : List (Bor (List ℕ))). with_all ns (numbers_in (map (λ (w : Bor (List ℕ)). w.now) l))) (sym (drop-cons ws i d h))

-- it is a number
pub numbers_more : (ws : List (Bor (List ℕ))) (i j : ℕ) (d : Bor (List ℕ)) (ns grown : List ℕ) (n m : ℕ) (o : Option ℕ) (all : Option (List ℕ)) → i < length ws → j ≡ suc i
    → o ≡ number_in (get_or ws i d).now → o ≡ Some n → m ≡ n → grown ≡ ns ++ m ∷ [] → with_all ns (numbers_in (map (λ (w : Bor (List ℕ)). w.now) (drop i ws))) ≡ all
    → with_all grown (numbers_in (map (λ w. w.now) (drop j ws))) ≡ all
numbers_more ws i j d ns grown n m o all h next is some same more so_far =
    let text : Bor (List ℕ) → List ℕ = λ w. w.now in
    let rest = numbers_in (map text (drop (suc i) ws)) in
    ap (λ (g : List ℕ). with_all g (numbers_in (map text (drop j ws)))) more
    ∙ ap (λ (k : ℕ). with_all (ns ++ m ∷ []) (numbers_in (map text (drop k ws)))) next
    ∙ ap (λ (k : ℕ). with_all (ns ++ k ∷ []) rest) same
    ∙ with_one_more ns n rest
    ∙ ap (λ (p : Option ℕ). with_all ns (before p rest)) (sym some)
    ∙ next_read ws i d ns o h is
    ∙ so_far

-- it is none
pub numbers_none : (ws : List (Bor (List ℕ))) (i : ℕ) (d : Bor (List ℕ)) (ns : List ℕ) (o : Option ℕ) (all : Option (List ℕ)) → i < length ws
    → o ≡ number_in (get_or ws i d).now → o ≡ None → with_all ns (numbers_in (map (λ (w : Bor (List ℕ)). w.now) (drop i ws))) ≡ all → None ≡ all
numbers_none ws i d ns o all h is none so_far =
    ap (λ (p : Option ℕ). with_all ns (before p (numbers_in (map (λ (w : Bor (List ℕ)). w.now) (drop (suc i) ws))))) (sym none)
    ∙ next_read ws i d ns o h is
    ∙ so_far
