-- Lists of bytes stay lists of bytes.
use Rattle.std.proofs.Common.{ℕ, zero, suc, ◌+◌, ◌/◌, List, [], ◌∷◌, ◌++◌, arith, length, take, drop}
use Rattle.std.specs.Prelude.{replicate}
use Rattle.object_store.specs.Object.{AreBytes, part}
use Rattle.bpf_machine.specs.State.{le_bytes, written}

pub are_append : (xs ys : List ℕ) → AreBytes xs → AreBytes ys → AreBytes (xs ++ ys)
are_append [] ys h k = k
are_append (x ∷ xs) ys h k = (h.0, are_append xs ys h.1 k)

pub are_take : (n : ℕ) (xs : List ℕ) → AreBytes xs → AreBytes (take n xs)
are_take zero xs h = tt
are_take (suc n) [] h = tt
are_take (suc n) (x ∷ xs) h = (h.0, are_take n xs h.1)

pub are_drop : (n : ℕ) (xs : List ℕ) → AreBytes xs → AreBytes (drop n xs)
are_drop zero xs h = h
are_drop (suc n) [] h = tt
are_drop (suc n) (x ∷ xs) h = are_drop n xs h.1

pub are_zeros : (n : ℕ) → AreBytes (replicate n 0)
are_zeros zero = tt
are_zeros (suc n) = (omega arith, are_zeros n)

pub are_part : (xs : List ℕ) (place n : ℕ) → AreBytes xs → AreBytes (part xs place n)
are_part xs place n h = are_take n (drop place xs) (are_drop place xs h)

pub are_le_bytes : (w n : ℕ) → AreBytes (le_bytes w n)
are_le_bytes zero n = tt
are_le_bytes (suc w) n = (omega arith, are_le_bytes w (n / 256))

pub are_written : (xs : List ℕ) (place : ℕ) (bytes : List ℕ) → AreBytes xs → AreBytes bytes → AreBytes (written xs place bytes)
are_written xs place bytes h k =
    are_append (take place xs) (bytes ++ drop (place + length bytes) xs) (are_take place xs h)
    (are_append bytes (drop (place + length bytes) xs) k (are_drop (place + length bytes) xs h))
