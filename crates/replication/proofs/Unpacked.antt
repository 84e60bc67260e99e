-- A list that was packed and unpacked is the same list.
use Rattle.std.proofs.Common.{◌≡◌, ℕ, zero, suc, ◌≤◌, List, [], ◌∷◌, ◌++◌, length, take, min, refl, ap, ◌∙◌, arith}
use Rattle.std.proofs.lemmas.List.{take-append-drop}
use mathlib.Core.List.{IsPrefix}
use Rattle.pg_log.specs.Requests.{ClientRequest}
use Rattle.replication.specs.Packed.{packed, IsUnpacked}

module _ {X : Type 0} where
  -- a list that begins with the first k requests of another begins with its first n, if n ≤ k
  fewer : (xs zs : List X) (n k : ℕ) → n ≤ k → k ≤ length xs → take n xs ≡ take n (take k xs ++ zs)
  fewer xs zs zero k h i = refl
  fewer xs zs (suc n) zero h i = absurd (omega (arith, h))
  fewer [] zs (suc n) (suc k) h i = absurd (omega (arith, i))
  fewer (x ∷ xs) zs (suc n) (suc k) h i = ap (λ l. x ∷ l) (fewer xs zs n k (omega (arith, h)) (omega (arith, i)))

min_below : (a b : ℕ) → min a b ≤ a
min_below a b = omega arith

pub unpacked : (local list : List ClientRequest) (reported : ℕ) → (packed list reported).common ≤ length local →
    take (packed list reported).common local ≡ take (packed list reported).common list → IsUnpacked local list reported
unpacked local list reported h e = record {
  enough = h;
  same = ap (λ w. w ++ (packed list reported).rest) e ∙ take-append-drop (min reported (length list)) list;
}

pub committed_enough : (local list : List ClientRequest) (committed reported : ℕ) → committed ≤ length local → reported ≤ committed →
    IsPrefix (take committed local) list → IsUnpacked local list reported
committed_enough local list committed reported h t p =
    let less = min_below reported (length list) in
    unpacked local list reported (omega (arith, h, t, less))
    (fewer local p.0 (min reported (length list)) committed (omega (arith, t, less)) h ∙ ap (take (min reported (length list))) p.1)
