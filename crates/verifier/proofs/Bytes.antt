-- Lists of bytes stay lists of bytes.
use Rattle.std.proofs.Common.{◌≡◌, ℕ, zero, suc, ◌+◌, ◌/◌, ◌^◌, ◌<◌, ◌≤◌, List, [], ◌∷◌, ◌++◌, Option, Some, refl, ap, arith, length, take, drop, length-take}
use Rattle.std.specs.Prelude.{replicate}
use Rattle.std.proofs.Math.Nat.{pow-succ', pow-le-pow_right}
use Rattle.object_store.specs.Object.{AreBytes}
use Rattle.bpf_machine.specs.State.{◌>>=◌, le_value, le_bytes, written}
use Rattle.bpf_machine.specs.Typed.{as_cells, plain_bytes}

pub bytes_append : (xs ys : List ℕ) → AreBytes xs → AreBytes ys → AreBytes (xs ++ ys)
bytes_append [] ys a b = b
bytes_append (x ∷ xs) ys a b = (a.0, bytes_append xs ys a.1 b)

pub bytes_take : (n : ℕ) (xs : List ℕ) → AreBytes xs → AreBytes (take n xs)
bytes_take zero xs a = tt
bytes_take (suc n) [] a = tt
bytes_take (suc n) (x ∷ xs) a = (a.0, bytes_take n xs a.1)

pub bytes_drop : (n : ℕ) (xs : List ℕ) → AreBytes xs → AreBytes (drop n xs)
bytes_drop zero xs a = a
bytes_drop (suc n) [] a = tt
bytes_drop (suc n) (x ∷ xs) a = bytes_drop n xs a.1

pub bytes_zeros : (n : ℕ) → AreBytes (replicate n 0)
bytes_zeros zero = tt
bytes_zeros (suc n) = (omega arith, bytes_zeros n)

pub bytes_of_number : (w n : ℕ) → AreBytes (le_bytes w n)
bytes_of_number zero n = tt
bytes_of_number (suc w) n = (omega arith, bytes_of_number w (n / 256))

pub le_value_below : (xs : List ℕ) → AreBytes xs → le_value xs < 256 ^ length xs
le_value_below [] a = omega arith
le_value_below (x ∷ xs) a =
    let h = le_value_below xs a.1 in
    let x_small = a.0 in
    let p = pow-succ' 256 (length xs) in
    omega arith

pub value_in : (w : ℕ) (xs : List ℕ) → AreBytes xs → le_value (take w xs) < 256 ^ w
value_in w xs a =
    let small = le_value_below (take w xs) (bytes_take w xs a) in
    let short : length (take w xs) ≤ w = simp length-take (omega arith) in
    let le : 256 ^ length (take w xs) ≤ 256 ^ w = pow-le-pow_right {n = 256} (omega arith) short in
    omega (arith, small, le)

pub bytes_written : (xs : List ℕ) (at : ℕ) (bytes : List ℕ) → AreBytes xs → AreBytes bytes → AreBytes (written xs at bytes)
bytes_written xs at bytes a b =
    bytes_append (take at xs) _ (bytes_take at xs a) (bytes_append bytes _ b (bytes_drop (at + length bytes) xs a))

-- bytes alone, as cells
pub as_plain : (bytes : List ℕ) → plain_bytes (as_cells bytes) ≡ Some bytes
as_plain [] = refl
as_plain (b ∷ bytes) = ap (λ (o : Option (List ℕ)). o >>= λ bs. Some (b ∷ bs)) (as_plain bytes)
