-- Beginnings of one list, and lists of lists.
use Rattle.std.proofs.Common.{◌≡◌, ◌≢◌, ◌⊎◌, inl, inr, ⊎_elim, ℕ, zero, suc, ◌+◌, List, [], ◌∷◌, ◌++◌, map, refl, ap, sym, ◌∙◌, append_assoc, arith}
use Rattle.std.proofs.lemmas.List.{append-nil}
use Rattle.std.proofs.lemmas.List.FromFn.{map-range_with_len_more}
use Rattle.std.specs.List.{range_with_len}
use mathlib.Core.List.{IsPrefix}
use Rattle.pg_log.specs.Requests.{ClientRequest}
use Rattle.commit_board.specs.Lists.{list_at, put_at, longer, merged}

pub prefix_self : (xs : List ClientRequest) → IsPrefix xs xs
prefix_self xs = ([], append-nil xs)

pub prefix_none : (xs : List ClientRequest) → IsPrefix [] xs
prefix_none xs = (xs, refl)

pub prefix_trans : (xs ys zs : List ClientRequest) → IsPrefix xs ys → IsPrefix ys zs → IsPrefix xs zs
prefix_trans xs ys zs p q = (p.0 ++ q.0, sym (append_assoc xs p.0 q.0) ∙ (ap (λ w. w ++ q.0) p.1 ∙ q.1))

pub longer_left : (xs ys zs : List ClientRequest) → IsPrefix xs zs → IsPrefix ys zs → IsPrefix xs (longer xs ys)
longer_left [] ys zs p q = (ys, refl)
longer_left (x ∷ xs) [] zs p q = prefix_self (x ∷ xs)
longer_left (x ∷ xs) (y ∷ ys) [] p q = absurd (cc (p.1))
longer_left (x ∷ xs) (y ∷ ys) (z ∷ zs) p q =
    let rest = longer_left xs ys zs (p.0, cc (p.1)) (q.0, cc (q.1)) in (rest.0, cc (rest.1))

pub longer_right : (xs ys zs : List ClientRequest) → IsPrefix xs zs → IsPrefix ys zs → IsPrefix ys (longer xs ys)
longer_right [] ys zs p q = prefix_self ys
longer_right (x ∷ xs) [] zs p q = prefix_none (x ∷ xs)
longer_right (x ∷ xs) (y ∷ ys) [] p q = absurd (cc (p.1))
longer_right (x ∷ xs) (y ∷ ys) (z ∷ zs) p q =
    let heads : y ≡ x = cc (p.1, q.1) in
    let rest = longer_right xs ys zs (p.0, cc (p.1)) (q.0, cc (q.1)) in (rest.0, cc (heads, rest.1))

pub longer_of : (xs ys zs : List ClientRequest) → IsPrefix xs zs → IsPrefix ys zs → IsPrefix (longer xs ys) zs
longer_of [] ys zs p q = q
longer_of (x ∷ xs) [] zs p q = p
longer_of (x ∷ xs) (y ∷ ys) [] p q = absurd (cc (p.1))
longer_of (x ∷ xs) (y ∷ ys) (z ∷ zs) p q =
    let heads : x ≡ z = cc (p.1) in
    let rest = longer_of xs ys zs (p.0, cc (p.1)) (q.0, cc (q.1)) in (rest.0, cc (heads, rest.1))

-- the longer list is one of the two
pub longer_either : (xs ys zs : List ClientRequest) → IsPrefix xs zs → IsPrefix ys zs → (longer xs ys ≡ xs) ⊎ (longer xs ys ≡ ys)
longer_either [] ys zs p q = inr refl
longer_either (x ∷ xs) [] zs p q = inl refl
longer_either (x ∷ xs) (y ∷ ys) [] p q = absurd (cc (p.1))
longer_either (x ∷ xs) (y ∷ ys) (z ∷ zs) p q =
    let heads : x ≡ y = cc (p.1, q.1) in
    ⊎_elim (λ (e : longer xs ys ≡ xs). inl (ap (λ (l : List ClientRequest). x ∷ l) e)) (λ (e : longer xs ys ≡ ys). inr (λ i. heads i ∷ e i))
    (longer_either xs ys zs (p.0, cc (p.1)) (q.0, cc (q.1)))

pub list_at-put : (xs : List (List ClientRequest)) (i : ℕ) (l : List ClientRequest) → list_at (put_at xs i l) i ≡ l
list_at-put [] zero l = refl
list_at-put [] (suc i) l = list_at-put [] i l
list_at-put (x ∷ xs) zero l = refl
list_at-put (x ∷ xs) (suc i) l = list_at-put xs i l

pub list_at-put_else : (xs : List (List ClientRequest)) (i j : ℕ) (l : List ClientRequest) → j ≢ i → list_at (put_at xs i l) j ≡ list_at xs j
list_at-put_else [] zero zero l n = absurd (n refl)
list_at-put_else [] zero (suc j) l n = refl
list_at-put_else [] (suc i) zero l n = refl
list_at-put_else [] (suc i) (suc j) l n = list_at-put_else [] i j l (λ e. n (ap suc e))
list_at-put_else (x ∷ xs) zero zero l n = absurd (n refl)
list_at-put_else (x ∷ xs) zero (suc j) l n = refl
list_at-put_else (x ∷ xs) (suc i) zero l n = refl
list_at-put_else (x ∷ xs) (suc i) (suc j) l n = list_at-put_else xs i j l (λ e. n (ap suc e))

longer-nil : (xs : List ClientRequest) → longer xs [] ≡ xs
longer-nil [] = refl
longer-nil (x ∷ xs) = refl

pub list_at-merged : (xs ys : List (List ClientRequest)) (i : ℕ) → list_at (merged xs ys) i ≡ longer (list_at xs i) (list_at ys i)
list_at-merged [] ys i = refl
list_at-merged (x ∷ xs) [] i = sym (longer-nil (list_at (x ∷ xs) i))
list_at-merged (x ∷ xs) (y ∷ ys) zero = refl
list_at-merged (x ∷ xs) (y ∷ ys) (suc i) = list_at-merged xs ys i

-- one more row
pub more_rows : {B : Type 0} (f : ℕ → B) (n : ℕ) (xs ys : List B) (y : B) → xs ≡ map f (range_with_len 0 n) → y ≡ f n → ys ≡ xs ++ y ∷ [] → ys ≡ map f (range_with_len 0 (n + 1))
more_rows f n xs ys y is so more = more ∙ (λ k. is k ++ so k ∷ []) ∙ sym (map-range_with_len_more f 0 n n (omega arith))
