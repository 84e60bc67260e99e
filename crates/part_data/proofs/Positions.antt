-- The bytes at a position of lists that are joined, laid over or resized.
use Rattle.std.proofs.Common.{◌≡◌, ℕ, zero, suc, ◌+◌, ◌-◌, ◌<◌, ◌≤◌, min, max, List, ◌++◌, length, take, drop, replicate, get_or, refl, ap, sym, ◌∙◌, inl, inr, arith, length-append, length-drop}
use Rattle.std.proofs.lemmas.Bool.{cases_lt, cond-false, false_from_ne_true, eqb-true}
use Rattle.std.proofs.lemmas.List.{length-take, length-replicate, get_or-take, get_or-drop, get_or_append_left, get_or-append_right, get_or_past}
use Rattle.std.specs.Prelude.{◌==◌, false}
use Rattle.object_store.specs.Object.{part, spliced, resized}

pub zeros_read : (n i : ℕ) → ◌≡◌ {A = ℕ} (get_or (replicate n 0) i 0) 0
zeros_read zero i = refl
zeros_read (suc n) zero = refl
zeros_read (suc n) (suc i) = zeros_read n i

-- zeros after bytes read as nothing after them
pub padded_read : (xs : List ℕ) (n i : ℕ) → get_or (xs ++ replicate n 0) i 0 ≡ get_or xs i 0
padded_read xs n i =
    elim (cases_lt i (length xs)) [
      | inl lt ↦ get_or_append_left xs (replicate n 0) 0 i lt
      | inr past ↦ get_or-append_right xs (replicate n 0) (length xs) i 0 refl past ∙ zeros_read n (i - length xs) ∙ sym (get_or_past xs i 0 past)
    ]

module _ (front text back : List ℕ) (at p : ℕ) (e : length front ≡ at) where
  pub joined_before : p < at → get_or (front ++ text ++ back) p 0 ≡ get_or front p 0
  joined_before h =
      get_or_append_left (front ++ text) back 0 p (omega (arith, e, h, length-append front text))
      ∙ get_or_append_left front text 0 p (omega (arith, e, h))

  pub joined_met : at ≤ p → p < at + length text → get_or (front ++ text ++ back) p 0 ≡ get_or text (p - at) 0
  joined_met from to =
      get_or_append_left (front ++ text) back 0 p (omega (arith, e, to, length-append front text))
      ∙ get_or-append_right front text at p 0 e from

  pub joined_after : at + length text ≤ p → get_or (front ++ text ++ back) p 0 ≡ get_or back (p - (at + length text)) 0
  joined_after h = get_or-append_right (front ++ text) back (at + length text) p 0 (omega (arith, e, length-append front text)) h

dropped_read : (xs : List ℕ) (n p : ℕ) → n ≤ p → get_or (drop n xs) (p - n) 0 ≡ get_or xs p 0
dropped_read xs n p h = let e : n + (p - n) ≡ p = omega (arith, h) in get_or-drop n xs (p - n) 0 ∙ ap (λ k. get_or xs k 0) e

-- ---- text laid over bytes, within them
module _ (xs : List ℕ) (at : ℕ) (text : List ℕ) (p : ℕ) (room : at + length text ≤ length xs) where
  front_len : length (take at xs) ≡ at
  front_len = omega (arith, length-take at xs, room)

  pub over_before : p < at → get_or (take at xs ++ text ++ drop (at + length text) xs) p 0 ≡ get_or xs p 0
  over_before h = joined_before (take at xs) text (drop (at + length text) xs) at p front_len h ∙ get_or-take at xs p 0 h

  pub over_met : at ≤ p → p < at + length text → get_or (take at xs ++ text ++ drop (at + length text) xs) p 0 ≡ get_or text (p - at) 0
  over_met from to = joined_met (take at xs) text (drop (at + length text) xs) at p front_len from to

  pub over_after : at + length text ≤ p → get_or (take at xs ++ text ++ drop (at + length text) xs) p 0 ≡ get_or xs p 0
  over_after h = joined_after (take at xs) text (drop (at + length text) xs) at p front_len h ∙ dropped_read xs (at + length text) p h

-- ---- zeros from a place on
pub cleared_before : (xs : List ℕ) (at n p : ℕ) → p < at → get_or (take at xs ++ replicate n 0) p 0 ≡ get_or xs p 0
cleared_before xs at n p h = padded_read (take at xs) n p ∙ get_or-take at xs p 0 h

pub cleared_after : (xs : List ℕ) (at n p : ℕ) → at ≤ p → get_or (take at xs ++ replicate n 0) p 0 ≡ 0
cleared_after xs at n p h = padded_read (take at xs) n p ∙ get_or_past (take at xs) p 0 (omega (arith, length-take at xs, h))

-- ---- text spliced into bytes
not_zero : (text : List ℕ) → 1 ≤ length text → (length text == 0) ≡ false
not_zero text some = false_from_ne_true (length text == 0) (λ e. absurd (omega (arith, eqb-true (length text) 0 e, some)))

module _ (xs : List ℕ) (at : ℕ) (text : List ℕ) (some : 1 ≤ length text) where
  front : List ℕ
  front = take at xs ++ replicate (at - length xs) 0

  is : spliced xs at text ≡ front ++ text ++ drop (at + length text) xs
  unfolding front
  is = cond-false (length text == 0) xs (take at xs ++ replicate (at - length xs) 0 ++ text ++ drop (at + length text) xs) (not_zero text some)

  front_is : length front ≡ at
  unfolding front
  front_is = length-append (take at xs) (replicate (at - length xs) 0) ∙ omega (arith, length-take at xs, length-replicate {A = ℕ} (at - length xs) 0)

  front_read : (p : ℕ) → p < at → get_or front p 0 ≡ get_or xs p 0
  unfolding front
  front_read p h = cleared_before xs at (at - length xs) p h

  pub length-spliced : length (spliced xs at text) ≡ max (length xs) (at + length text)
  length-spliced =
      ap length is
      ∙ omega (arith, length-append (front ++ text) (drop (at + length text) xs), length-append front text, front_is, length-drop (at + length text) xs)

  pub spliced_before : (p : ℕ) → p < at → get_or (spliced xs at text) p 0 ≡ get_or xs p 0
  spliced_before p h = ap (λ l. get_or l p 0) is ∙ joined_before front text (drop (at + length text) xs) at p front_is h ∙ front_read p h

  pub spliced_met : (p : ℕ) → at ≤ p → p < at + length text → get_or (spliced xs at text) p 0 ≡ get_or text (p - at) 0
  spliced_met p from to = ap (λ l. get_or l p 0) is ∙ joined_met front text (drop (at + length text) xs) at p front_is from to

  pub spliced_after : (p : ℕ) → at + length text ≤ p → get_or (spliced xs at text) p 0 ≡ get_or xs p 0
  spliced_after p h =
      ap (λ l. get_or l p 0) is ∙ joined_after front text (drop (at + length text) xs) at p front_is h ∙ dropped_read xs (at + length text) p h

-- ---- bytes of another length
pub length-resized : (xs : List ℕ) (len : ℕ) → length (resized xs len) ≡ len
length-resized xs len =
    length-append (take len xs) (replicate (len - length xs) 0)
    ∙ omega (arith, length-take len xs, length-replicate {A = ℕ} (len - length xs) 0)

pub resized_read : (xs : List ℕ) (len p : ℕ) → p < len → get_or (resized xs len) p 0 ≡ get_or xs p 0
resized_read xs len p h = cleared_before xs len (len - length xs) p h

-- ---- a part of bytes
pub length-part : (xs : List ℕ) (at n : ℕ) → length (part xs at n) ≡ min n (length xs - at)
length-part xs at n = length-take n (drop at xs) ∙ ap (min n) (length-drop at xs)

pub part_read : (xs : List ℕ) (at n k : ℕ) → k < n → get_or (part xs at n) k 0 ≡ get_or xs (at + k) 0
part_read xs at n k h = get_or-take n (drop at xs) k 0 h ∙ get_or-drop at xs k 0
