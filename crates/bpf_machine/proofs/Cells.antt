-- Members of a list by their places, in a part of it and after a write.
use Rattle.std.proofs.Common.{◌≡◌, ℕ, zero, suc, ◌+◌, ◌-◌, ◌/◌, ◌<◌, ◌≤◌, List, [], ◌∷◌, ◌++◌, refl, ap, ◌∙◌, arith, length, take, drop, length-append, length-drop}
use Rattle.std.specs.Prelude.{slice_get}
use Rattle.std.proofs.lemmas.List.{length-take-le}
use Rattle.std.proofs.lemmas.Option.{same_Some}
use Rattle.object_store.specs.Object.{part}
use Rattle.bpf_machine.specs.State.{le_bytes}

pub get_left : {A : Type 0} (xs ys : List A) (k : ℕ) → k < length xs → slice_get (xs ++ ys) k ≡ slice_get xs k
get_left [] ys k h = absurd (omega arith)
get_left (x ∷ xs) ys zero h = refl
get_left (x ∷ xs) ys (suc k) h = get_left xs ys k (omega arith)

pub get_right : {A : Type 0} (xs ys : List A) (n k : ℕ) → n ≡ length xs + k → slice_get (xs ++ ys) n ≡ slice_get ys k
get_right [] ys n k e = ap (λ i. slice_get ys i) (omega arith)
get_right (x ∷ xs) ys zero k e = absurd (omega arith)
get_right (x ∷ xs) ys (suc n) k e = get_right xs ys n k (omega arith)

get_take : {A : Type 0} (xs : List A) (n k : ℕ) → k < n → slice_get (take n xs) k ≡ slice_get xs k
get_take xs zero k h = absurd (omega arith)
get_take [] (suc n) k h = refl
get_take (x ∷ xs) (suc n) zero h = refl
get_take (x ∷ xs) (suc n) (suc k) h = get_take xs n k (omega arith)

get_drop : {A : Type 0} (xs : List A) (n m k : ℕ) → m ≡ n + k → slice_get (drop n xs) k ≡ slice_get xs m
get_drop xs zero m k e = ap (λ i. slice_get xs i) (omega arith)
get_drop [] (suc n) m k e = refl
get_drop (x ∷ xs) (suc n) zero k e = absurd (omega arith)
get_drop (x ∷ xs) (suc n) (suc m) k e = get_drop xs n m k (omega arith)

pub piece_at : {A : Type 0} (xs : List A) (place n k : ℕ) → k < n → slice_get (take n (drop place xs)) k ≡ slice_get xs (place + k)
piece_at xs place n k h = get_take (drop place xs) n k h ∙ get_drop xs place (place + k) k refl

pub length-piece : {A : Type 0} (xs : List A) (place n : ℕ) → place + n ≤ length xs → length (take n (drop place xs)) ≡ n
length-piece xs place n h = length-take-le n (drop place xs) (omega (arith, length-drop place xs))

pub part_at : (xs : List ℕ) (place n k : ℕ) → k < n → slice_get (part xs place n) k ≡ slice_get xs (place + k)
part_at xs place n k h = piece_at xs place n k h

pub part_length : (xs : List ℕ) (place n : ℕ) → place + n ≤ length xs → length (part xs place n) ≡ n
part_length xs place n h = length-piece xs place n h

-- lists with the same members at the same places are one
pub same_members : {A : Type 0} (xs ys : List A) → length xs ≡ length ys → ((k : ℕ) → k < length xs → slice_get xs k ≡ slice_get ys k) → xs ≡ ys
same_members [] [] e h = refl
same_members [] (y ∷ ys) e h = absurd (omega arith)
same_members (x ∷ xs) [] e h = absurd (omega arith)
same_members (x ∷ xs) (y ∷ ys) e h =
    let first : x ≡ y = same_Some x y (h zero (omega arith)) in
    let rest = same_members xs ys (omega arith) (λ k l. h (suc k) (omega arith)) in
    ap (λ z. z ∷ xs) first ∙ ap (λ zs. y ∷ zs) rest

pub length-le_bytes : (w n : ℕ) → length (le_bytes w n) ≡ w
length-le_bytes zero n = refl
length-le_bytes (suc w) n = ap suc (length-le_bytes w (n / 256))

-- a list whose members from a place on are those of another
abbrev pub replaced : {A : Type 0} → List A → ℕ → List A → List A
replaced xs place new = take place xs ++ (new ++ drop (place + length new) xs)

module _ {A : Type 0} (xs : List A) (place : ℕ) (new : List A) (inside : place + length new ≤ length xs) where
  front : length (take place xs) ≡ place
  front = length-take-le place xs (omega arith)

  pub written_at : (k : ℕ) → k < length new → slice_get (replaced xs place new) (place + k) ≡ slice_get new k
  written_at k h =
      get_right (take place xs) (new ++ drop (place + length new) xs) (place + k) k (omega (arith, front))
      ∙ get_left new (drop (place + length new) xs) k h

  pub written_below : (k : ℕ) → k < place → slice_get (replaced xs place new) k ≡ slice_get xs k
  written_below k h =
      get_left (take place xs) (new ++ drop (place + length new) xs) k (omega (arith, front)) ∙ get_take xs place k h

  pub written_above : (k : ℕ) → place + length new ≤ k → slice_get (replaced xs place new) k ≡ slice_get xs k
  written_above k h =
      let rest : ℕ = k - (place + length new) in
      get_right (take place xs) (new ++ drop (place + length new) xs) k (length new + rest) (omega (arith, front))
      ∙ get_right new (drop (place + length new) xs) (length new + rest) rest refl
      ∙ get_drop xs (place + length new) k rest (omega arith)

  pub length-written : length (replaced xs place new) ≡ length xs
  length-written =
      omega (arith, front, length-append (take place xs) (new ++ drop (place + length new) xs), length-append new (drop (place + length new) xs), length-drop (place + length new) xs)
