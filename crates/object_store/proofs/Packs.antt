-- Lemmas on extents that are full, or packed.
use Rattle.std.proofs.Common.{◌≡◌, ℕ, zero, suc, ◌+◌, ◌-◌, ◌*◌, ◌%◌, ◌<◌, ◌≤◌, min, inl, inr, List, [], ◌∷◌, ◌++◌, length, take, drop, replicate, get_or, refl, ap, sym, subst, ◌∙◌, arith, length-append, length-drop}
use Rattle.std.proofs.lemmas.Bool.Decides.{leb_tells}
use Rattle.std.proofs.lemmas.List.{append-nil, length-take, length-replicate, take_more}
use Rattle.std.proofs.Math.ListN.{drop_of_length-le}
use Rattle.object_store.specs.declared.extent.TheConstants.{EXTENT_LIMIT}
use Rattle.object_store.specs.Extents.{flat, cut, AreFull, ArePacked}
use Rattle.object_store.proofs.Flats.{flat-halves}

pub full-packed : (xs : List (List ℕ)) → AreFull xs → ArePacked xs
full-packed [] h = tt
full-packed (x ∷ xs) h = (omega (arith, h.0), omega (arith, h.0), λ _. h.0, full-packed xs h.1)

pub full-append : (xs ys : List (List ℕ)) → AreFull xs → AreFull ys → AreFull (xs ++ ys)
full-append [] ys p q = q
full-append (x ∷ xs) ys p q = (p.0, full-append xs ys p.1 q)

pub packed-append : (xs ys : List (List ℕ)) → AreFull xs → ArePacked ys → ArePacked (xs ++ ys)
packed-append [] ys p q = q
packed-append (x ∷ xs) ys p q = (omega (arith, p.0), omega (arith, p.0), λ _. p.0, packed-append xs ys p.1 q)

pub packed-drop : (xs : List (List ℕ)) (n : ℕ) → ArePacked xs → ArePacked (drop n xs)
packed-drop xs zero p = p
packed-drop [] (suc n) p = tt
packed-drop (x ∷ xs) (suc n) p = packed-drop xs n p.3

-- extents that another follows are full
pub full-take : (xs : List (List ℕ)) (n : ℕ) → ArePacked xs → n < length xs → AreFull (take n xs)
full-take xs zero p h = tt
full-take [] (suc n) p h = absurd (omega arith)
full-take (x ∷ xs) (suc n) p h = (p.2 (omega arith), full-take xs n p.3 (omega arith))

pub length-flat-full : (xs : List (List ℕ)) → AreFull xs → length (flat xs) ≡ length xs * EXTENT_LIMIT
length-flat-full [] h = omega arith
length-flat-full (x ∷ xs) h = omega (arith, length-append x (flat xs), h.0, length-flat-full xs h.1)

pub full-more : (xs : List (List ℕ)) (i : ℕ) (d : List ℕ) → i < length xs → AreFull (take i xs) → length (get_or xs i d) ≡ EXTENT_LIMIT → AreFull (take (i + 1) xs)
full-more xs i d h p e = subst AreFull (sym (take_more xs i d h)) (full-append (take i xs) (get_or xs i d ∷ []) p (e, tt))

pub full-push : (xs : List (List ℕ)) (x : List ℕ) → AreFull xs → length x ≡ EXTENT_LIMIT → AreFull (xs ++ x ∷ [])
full-push xs x p e = full-append xs (x ∷ []) p (e, tt)

one_packed : (x : List ℕ) → 1 ≤ length x → length x ≤ EXTENT_LIMIT → ArePacked (x ∷ [])
one_packed x p q = (p, q, λ h. absurd (omega arith), tt)

pub packed-push : (xs : List (List ℕ)) (x : List ℕ) → AreFull xs → 1 ≤ length x → length x ≤ EXTENT_LIMIT → ArePacked (xs ++ x ∷ [])
packed-push xs x p low high = packed-append xs (x ∷ []) p (one_packed x low high)

-- packed extents stay so where others follow only full ones
pub packed-seam : (new xs : List (List ℕ)) (n : ℕ) → ArePacked new → (n < length xs → AreFull new) → ArePacked (drop n xs) → ArePacked (new ++ drop n xs)
packed-seam new xs n p f q =
    elim (leb_tells (length xs) n) [
      | inl h ↦ subst (λ ys. ArePacked (new ++ ys)) (sym (drop_of_length-le xs {i = n} h.1)) (subst ArePacked (sym (append-nil new)) p)
      | inr h ↦ packed-append new (drop n xs) (f h.1) q
    ]

-- no extent is empty
pub some_bytes_left : (xs : List (List ℕ)) → ArePacked xs → 1 ≤ length xs → 1 ≤ length (flat xs)
some_bytes_left [] p h = absurd (omega arith)
some_bytes_left (x ∷ xs) p h = omega (arith, length-append x (flat xs), p.0)

length-cut-is : (from to : ℕ) (xs : List ℕ) → to ≤ length xs → length (cut from to xs) ≡ to - from
length-cut-is from to xs h = omega (arith, length-take (to - from) (drop from xs), length-drop from xs)

-- new bytes fill the extents that they replace, where others follow
pub fills : (rest : List (List ℕ)) (count low gap end to : ℕ) (text m : List ℕ) → ArePacked rest → count < length rest →
    to ≡ length (flat (take count rest)) → min end (length (flat rest)) ≤ to → end ≡ low + length text → (end ≤ length (flat rest) → gap ≡ 0) →
    m ≡ ((cut 0 low (flat (take count rest)) ++ replicate gap 0) ++ text) ++ cut (min end to) to (flat (take count rest)) → length m % EXTENT_LIMIT ≡ 0
fills rest count low gap end to text m p h et high ee eg em =
    let a = flat (take count rest) in
    let b = flat (drop count rest) in
    let some : 1 ≤ length b = some_bytes_left (drop count rest) (packed-drop rest count p) (omega (arith, length-drop count rest)) in
    let whole : length (flat rest) ≡ length a + length b = sym (ap length (flat-halves rest count)) ∙ length-append a b in
    let within : end ≤ to = omega arith in
    let none : gap ≡ 0 = eg (omega arith) in
    let first : length (cut 0 low a) ≡ low - 0 = length-cut-is 0 low a (omega arith) in
    let last : length (cut (min end to) to a) ≡ to - min end to = length-cut-is (min end to) to a (omega arith) in
    let zeros : length {A = ℕ} (replicate gap 0) ≡ gap = length-replicate gap 0 in
    let parts : length m ≡ ((length (cut 0 low a) + length {A = ℕ} (replicate gap 0)) + length text) + length (cut (min end to) to a) =
    ap length em
    ∙ length-append ((cut 0 low a ++ replicate gap 0) ++ text) (cut (min end to) to a)
    ∙ ap (λ n. n + length (cut (min end to) to a)) (length-append (cut 0 low a ++ replicate gap 0) text ∙ ap (λ n. n + length text) (length-append (cut 0 low a) (replicate gap 0))) in
    let sum : length m ≡ to = omega arith in
    let full : length a ≡ length (take count rest) * EXTENT_LIMIT = length-flat-full (take count rest) (full-take rest count p h) in
    omega arith

-- how many extents packed bytes lie in
pub enough : (xs : List (List ℕ)) → ArePacked xs → length (flat xs) ≤ length xs * EXTENT_LIMIT
enough [] p = omega arith
enough (x ∷ xs) p = omega (arith, length-append x (flat xs), p.1, enough xs p.3)

pub few : (xs : List (List ℕ)) → ArePacked xs → length xs * EXTENT_LIMIT < length (flat xs) + EXTENT_LIMIT
few [] p = omega arith
few (x ∷ []) p = omega (arith, length-append x [], p.0)
few (x ∷ y ∷ xs) p = omega (arith, length-append x (flat (y ∷ xs)), p.2 (omega arith), few (y ∷ xs) p.3)

-- packed extents whose bytes fill a number of extents are full
pub filled-full : (xs : List (List ℕ)) (n : ℕ) → ArePacked xs → length (flat xs) ≡ n * EXTENT_LIMIT → AreFull xs
filled-full [] n p e = tt
filled-full (x ∷ []) n p e = (omega (arith, length-append x [], p.0, p.1, e), tt)
filled-full (x ∷ y ∷ xs) n p e =
    let first : length x ≡ EXTENT_LIMIT = p.2 (omega arith) in
    (first, filled-full (y ∷ xs) (n - 1) p.3 (omega (arith, length-append x (flat (y ∷ xs)), some_bytes_left (y ∷ xs) p.3 (omega arith), e)))

apart : (x y a b : List ℕ) → length x ≡ length y → x ++ a ≡ y ++ b → (x ≡ y) × (a ≡ b)
apart [] [] a b e h = (refl, h)
apart [] (z ∷ y) a b e h = absurd (omega arith)
apart (z ∷ x) [] a b e h = absurd (omega arith)
apart (z ∷ x) (w ∷ y) a b e h =
    let r : z ∷ (x ++ a) ≡ w ∷ (y ++ b) = h in
    let head : z ≡ w = cc in
    let tail : x ++ a ≡ y ++ b = cc in
    let t = apart x y a b (omega arith) tail in
    (cc, t.1)

-- an extent is no shorter than another that begins the same bytes
no_less : (xs : List (List ℕ)) (a b n : ℕ) → b ≤ EXTENT_LIMIT → (1 ≤ length xs → a ≡ EXTENT_LIMIT) → a + length (flat xs) ≡ b + n → b ≤ a
no_less [] a b n h f e = omega arith
no_less (x ∷ xs) a b n h f e = omega (arith, f (omega arith))

-- packed extents of the same bytes are the same
pub packed-one : (xs ys : List (List ℕ)) → ArePacked xs → ArePacked ys → flat xs ≡ flat ys → xs ≡ ys
packed-one [] [] p q h = refl
packed-one [] (y ∷ ys) p q h = absurd (omega (arith, ap length h, length-append y (flat ys), q.0))
packed-one (x ∷ xs) [] p q h = absurd (omega (arith, ap length h, length-append x (flat xs), p.0))
packed-one (x ∷ xs) (y ∷ ys) p q h =
    let long : length x + length (flat xs) ≡ length y + length (flat ys) = sym (length-append x (flat xs)) ∙ ap length h ∙ length-append y (flat ys) in
    let same : length x ≡ length y = omega (arith, no_less xs (length x) (length y) (length (flat ys)) q.1 p.2 long, no_less ys (length y) (length x) (length (flat xs)) p.1 q.2 (sym long)) in
    let parts = apart x y (flat xs) (flat ys) same h in
    cc (parts.0, packed-one xs ys p.3 q.3 parts.1)
