-- What is written.
use Rattle.std.proofs.Common.{◌≡◌, ◌∙◌, ℕ, zero, suc, ◌≤◌, List, ◌∷◌, ◌++◌, refl, ap, arith, take}
use Rattle.std.specs.Int.{byte_at, bytes_low_first}
use Rattle.std.proofs.lemmas.List.{take-append-le}
use Rattle.byteorder.specs.Endian.{little_bytes}
use Rattle.byteorder.specs.Numbers.{length-bytes_low_first}

-- the lowest bytes are the first
lowest : (i k m n : ℕ) → k ≤ m → take k (bytes_low_first i m n) ≡ bytes_low_first i k n
lowest i zero m n le = refl
lowest i (suc k) zero n le = absurd (omega arith)
lowest i (suc k) (suc m) n le = ap (λ (l : List ℕ). byte_at i n ∷ l) (lowest (suc i) k m n (omega arith))

pub lowest_bytes : (k n : ℕ) (rest : List ℕ) → k ≤ 8 → take k (little_bytes 8 n ++ rest) ≡ little_bytes k n
lowest_bytes k n rest le = take-append-le k (little_bytes 8 n) rest (omega (arith, length-bytes_low_first 0 8 n)) ∙ lowest 0 k 8 n le
