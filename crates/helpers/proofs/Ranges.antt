-- A buffer that is a part of a memory.
use Rattle.std.proofs.Common.{◌≡◌, ℕ, ◌+◌, ◌≤◌, List, ◌++◌, arith, ap, sym, ◌∙◌, append_assoc, length, take, drop, length-drop}
use Rattle.std.proofs.Math.Seq.{drop-drop}
use Rattle.std.proofs.lemmas.List.{drop-append-le, take-append-drop, length-take-le, length-take}
use Rattle.object_store.specs.Object.{part}
use Rattle.object_store.specs.Edits.{overlaid}
use Rattle.helpers.specs.View.{written}

-- bytes over the front of the k bytes at s are bytes over those at s
pub overlaid_part : (s k : ℕ) (xs front : List ℕ) → length front ≤ k → s + k ≤ length xs →
    take s xs ++ (overlaid front (take k (drop s xs)) ++ drop k (drop s xs)) ≡ written xs s front
overlaid_part s k xs front short within =
    let ys = drop s xs in
    let len : length (take k ys) ≡ k = length-take-le k ys (omega (arith, length-drop s xs)) in
    let rest : drop (length front) (take k ys) ++ drop k ys ≡ drop (length front) ys =
    sym (drop-append-le (length front) (take k ys) (drop k ys) (omega arith)) ∙ ap (drop (length front)) (take-append-drop k ys) in
    ap (λ l. take s xs ++ l) (append_assoc front (drop (length front) (take k ys)) (drop k ys) ∙ ap (λ l. front ++ l) (rest ∙ drop-drop (length front) s xs))

-- a memory after a read into a part of it
pub read_part : (s k most at : ℕ) (xs bytes out : List ℕ) → k ≡ most → s + most ≤ length xs →
    out ≡ overlaid (part bytes at (length (take k (drop s xs)))) (take k (drop s xs)) →
    take s xs ++ (out ++ drop k (drop s xs)) ≡ written xs s (part bytes at most)
read_part s k most at xs bytes out same within is =
    let len : length (take k (drop s xs)) ≡ most = length-take-le k (drop s xs) (omega (arith, length-drop s xs)) ∙ same in
    let short : length (part bytes at most) ≤ k = omega (arith, length-take most (drop at bytes)) in
    let fits : s + k ≤ length xs = omega arith in
    ap (λ o. take s xs ++ (o ++ drop k (drop s xs))) (is ∙ ap (λ n. overlaid (part bytes at n) (take k (drop s xs))) len)
    ∙ overlaid_part s k xs (part bytes at most) short fits
