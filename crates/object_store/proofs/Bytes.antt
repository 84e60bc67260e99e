-- Lists of bytes stay lists of bytes, and data stays within its limit.
use Rattle.std.proofs.Common.{◌≡◌, ℕ, zero, suc, ◌+◌, ◌-◌, ◌<◌, ◌≤◌, List, [], ◌∷◌, ◌++◌, Bool, true, false, arith, length, take, drop, length-append, length-drop, get_or}
use Rattle.std.specs.Prelude.{if◌then◌else◌, ◌==◌, replicate}
use Rattle.std.proofs.lemmas.List.{length-take, length-replicate}
use Rattle.object_store.specs.Object.{AreBytes, part, spliced, resized}

pub each_below : (xs : List ℕ) → ((i : ℕ) → get_or xs i 0 < 256) → AreBytes xs
each_below [] h = tt
each_below (x ∷ xs) h = (h 0, each_below xs (λ i. h (suc i)))

pub some_bytes : (xs : List ℕ) → (length xs == 0) ≡ false → 1 ≤ length xs
some_bytes [] e = absurd (cc)
some_bytes (x ∷ xs) e = omega arith

are_append : (xs ys : List ℕ) → AreBytes xs → AreBytes ys → AreBytes (xs ++ ys)
are_append [] ys h k = k
are_append (x ∷ xs) ys h k = (h.0, are_append xs ys h.1 k)

are_take : (n : ℕ) (xs : List ℕ) → AreBytes xs → AreBytes (take n xs)
are_take zero xs h = tt
are_take (suc n) [] h = tt
are_take (suc n) (x ∷ xs) h = (h.0, are_take n xs h.1)

are_drop : (n : ℕ) (xs : List ℕ) → AreBytes xs → AreBytes (drop n xs)
are_drop zero xs h = h
are_drop (suc n) [] h = tt
are_drop (suc n) (x ∷ xs) h = are_drop n xs h.1

are_zeros : (n : ℕ) → AreBytes (replicate n 0)
are_zeros zero = tt
are_zeros (suc n) = (omega arith, are_zeros n)

pub are_part : (xs : List ℕ) (place n : ℕ) → AreBytes xs → AreBytes (part xs place n)
are_part xs place n h = are_take n (drop place xs) (are_drop place xs h)

pub are_resized : (xs : List ℕ) (len : ℕ) → AreBytes xs → AreBytes (resized xs len)
are_resized xs len h = are_append (take len xs) (replicate (len - length xs) 0) (are_take len xs h) (are_zeros (len - length xs))

module _ (xs : List ℕ) (place : ℕ) (text : List ℕ) where
  pub are_spliced : AreBytes xs → AreBytes text → AreBytes (spliced xs place text)
  are_spliced h k = by (length text == 0)
    where
      by : (b : Bool) → AreBytes (if b then xs else take place xs ++ replicate (place - length xs) 0 ++ text ++ drop (place + length text) xs)
      by true = h
      by false =
          are_append (take place xs ++ replicate (place - length xs) 0 ++ text) (drop (place + length text) xs)
          (are_append (take place xs ++ replicate (place - length xs) 0) text
          (are_append (take place xs) (replicate (place - length xs) 0) (are_take place xs h) (are_zeros (place - length xs))) k)
          (are_drop (place + length text) xs h)

  pub spliced_short : (most : ℕ) → length xs ≤ most → place + length text ≤ most → length (spliced xs place text) ≤ most
  spliced_short most p q = by (length text == 0)
    where
      by : (b : Bool) → length (if b then xs else take place xs ++ replicate (place - length xs) 0 ++ text ++ drop (place + length text) xs) ≤ most
      by true = p
      by false =
          omega (arith, length-append (take place xs ++ replicate (place - length xs) 0 ++ text) (drop (place + length text) xs), length-append (take place xs ++ replicate (place - length xs) 0) text, length-append (take place xs) (replicate (place - length xs) 0), length-take place xs, length-replicate {A = ℕ} (place - length xs) 0, length-drop (place + length text) xs)
