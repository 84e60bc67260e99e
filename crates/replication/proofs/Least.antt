-- The least of some lengths.
use Rattle.std.proofs.Common.{◌≡◌, ℕ, zero, suc, ◌<◌, ◌≤◌, ◌⊎◌, List, [], ◌∷◌, length, get_or, min, refl, ap, sym, ◌∙◌, arith, subst, inl, inr, ⊎_elim}
use Rattle.std.specs.List.{AllByRecursion, Contains}
use Rattle.std.proofs.lemmas.List.Elements.{All-from_recursion, Contains-append_right, Contains-get_or}
use Rattle.replication.specs.Places.{IsLeast, least_from}

min_assoc : (a b c : ℕ) → min a (min b c) ≡ min (min a b) c
min_assoc a b c = omega arith

min-least_from : (local a : ℕ) (xs : List ℕ) → min local (least_from a xs) ≡ least_from (min local a) xs
min-least_from local a [] = refl
min-least_from local a (x ∷ xs) = min-least_from local (min a x) xs ∙ ap (λ n. least_from n xs) (min_assoc local a x)

min_same : (a : ℕ) → min a a ≡ a
min_same a = omega arith

-- the least of a list may start from its first element, which adds nothing
pub own_least : (local d : ℕ) (xs : List ℕ) → 0 < length xs → min local (least_from (get_or xs 0 d) xs) ≡ least_from local xs
own_least local d [] h = absurd (omega (arith, h))
own_least local d (x ∷ xs) h = min-least_from local (min x x) xs ∙ ap (λ n. least_from (min local n) xs) (min_same x)

min_cases : (a b : ℕ) → (min a b ≡ a) ⊎ (min a b ≡ b)
min_cases zero b = inl (omega arith)
min_cases (suc a) zero = inr (omega arith)
min_cases (suc a) (suc b) = ⊎_elim (λ h. inl (omega (arith, h))) (λ h. inr (omega (arith, h))) (min_cases a b)

one_of : (local : ℕ) (xs : List ℕ) → (least_from local xs ≡ local) ⊎ Contains xs (least_from local xs)
one_of local [] = inl refl
one_of local (x ∷ xs) =
    ⊎_elim
    (λ e. ⊎_elim (λ m. inl (e ∙ m)) (λ m. inr (0, omega arith, sym (e ∙ m))) (min_cases local x))
    (λ c. inr (Contains-append_right (x ∷ []) xs (least_from (min local x) xs) c))
    (one_of (min local x) xs)

lower : (local : ℕ) (xs : List ℕ) → (least_from local xs ≤ local) × AllByRecursion (λ n. least_from local xs ≤ n) xs
lower local [] = (omega arith, tt)
lower local (x ∷ xs) =
    let rest = lower (min local x) xs in
    let low = rest.0 in
    (omega (arith, low), (omega (arith, low), rest.1))

-- the least of a list, started from one of its elements, is its least
pub least_is : (xs : List ℕ) (first : ℕ) → Contains xs first → IsLeast (least_from first xs) xs
least_is xs first c =
    let C : ℕ → Type 0 = Contains xs in
    record {
      among = ⊎_elim (λ e. subst C (sym e) c) (λ h. h) (one_of first xs);
      below = All-from_recursion (λ n. least_from first xs ≤ n) xs (lower first xs).1;
    }

-- the least started from the first element is the least of the list
pub least_first : (xs : List ℕ) (r d : ℕ) → 0 < length xs → r ≡ least_from (get_or xs 0 d) xs → IsLeast r xs
least_first xs r d h e =
    let P : ℕ → Type 0 = λ n. IsLeast n xs in
    subst P (sym e) (least_is xs (get_or xs 0 d) (Contains-get_or xs 0 d h))

-- and with one length more it is the least of all of them
pub least_beside_own : (local : ℕ) (xs : List ℕ) (r d : ℕ) → 0 < length xs → r ≡ least_from (get_or xs 0 d) xs → min local r ≡ least_from local xs
least_beside_own local xs r d h e = ap (min local) e ∙ own_least local d xs h
