-- Proved; nothing here need be believed.
-- An arithmetic shift to the right, bit by bit.
use Rattle.std.specs.Prelude.{ℕ, suc, ◌+◌, ◌-◌, ◌/◌, ◌%◌, ◌^◌, ◌≡◌, ◌≤◌, ◌<◌, min, nat_lt}
use Rattle.std.specs.Int.{w64, bit_at, bit_not, cast_unsigned, int_shr}
use Rattle.std.proofs.Common.{sym, ap, ◌∙◌, refl, arith}
use Rattle.std.proofs.lemmas.Nat.{shr-shr, shr_le}
use Rattle.std.proofs.lemmas.Nat.Bits.{bit_at_not, bit_at_above, bit_at-lt, same_from_bits_below}
use Rattle.abstract_num.specs.Signed.{signed}
use Rattle.abstract_num.specs.Masks.{clear}
use Rattle.abstract_num.specs.proved.PartsFit.{bit_at_clear, clear_lt}
use Rattle.abstract_num.specs.proved.Cases.{cond_both, cond_dec}

-- n shifted by k
abbrev pub arsh : ℕ → ℕ → ℕ
arsh k n = cast_unsigned w64 (int_shr (signed n) k)

bit_at_shr : (n k i : ℕ) → bit_at (n / 2 ^ k) i ≡ bit_at n (k + i)
bit_at_shr n k i = ap (λ x. x % 2) (shr-shr n k i)

pub arsh_low : (k n : ℕ) → n < 2 ^ 63 → arsh k n ≡ n / 2 ^ k
arsh_low k n p =
    cond_both (λ z. cast_unsigned w64 (int_shr z k) ≡ n / 2 ^ k) (nat_lt n (2 ^ 63)) _ _ (λ e. refl)
    (λ e. absurd (grind arith))

arsh_high : (k n : ℕ) → 2 ^ 63 ≤ n → n < 2 ^ 64 → arsh k n ≡ bit_not w64 (bit_not w64 n / 2 ^ k)
arsh_high k n p q =
    cond_both (λ z. cast_unsigned w64 (int_shr z k) ≡ bit_not w64 (bit_not w64 n / 2 ^ k)) (nat_lt n (2 ^ 63)) _ _
    (λ e. absurd (grind arith))
    (λ e. let s : 2 ^ 64 - suc n ≡ 2 ^ 64 - 1 - n = omega arith in
    rw s (omega arith))

pub arsh_lt : (k n : ℕ) → n < 2 ^ 64 → arsh k n < 2 ^ 64
arsh_lt k n q =
    cond_dec (nat_lt n (2 ^ 63))
    (λ e. let p : n < 2 ^ 63 = grind arith in omega (arith, arsh_low k n p, shr_le n k))
    (λ e. let p : 2 ^ 63 ≤ n = grind arith in omega (arith, arsh_high k n p q))

bit_low : (k n i : ℕ) → i < 64 → n < 2 ^ 63 → bit_at (n / 2 ^ k) i ≡ bit_at n (min (k + i) 63)
bit_low k n i h p =
    cond_dec (nat_lt (k + i) 64)
    (λ e. let j : min (k + i) 63 ≡ k + i = grind arith in rw j (bit_at_shr n k i))
    (λ e. let j : min (k + i) 63 ≡ 63 = grind arith in
    let far : 63 ≤ k + i = grind arith in
    let top : bit_at n 63 ≡ 0 = bit_at_above n 63 63 p (omega arith) in
    rw j (bit_at_shr n k i ∙ bit_at_above n 63 (k + i) p far ∙ sym top))

pub bit_at_arsh : (k n i : ℕ) → i < 64 → n < 2 ^ 64 → bit_at (arsh k n) i ≡ bit_at n (min (k + i) 63)
bit_at_arsh k n i h q =
    cond_dec (nat_lt n (2 ^ 63))
    (λ e. let p : n < 2 ^ 63 = grind arith in ap (λ x. bit_at x i) (arsh_low k n p) ∙ bit_low k n i h p)
    (λ e. let p : 2 ^ 63 ≤ n = grind arith in
    let small : bit_not w64 n < 2 ^ 63 = omega arith in
    let fits : bit_not w64 n / 2 ^ k < 2 ^ 64 = omega (arith, shr_le (bit_not w64 n) k) in
    let j : min (k + i) 63 < 64 = omega arith in
    omega (
      arith,
      ap (λ x. bit_at x i) (arsh_high k n p q),
      bit_at_not w64 (bit_not w64 n / 2 ^ k) i fits h,
      bit_low k (bit_not w64 n) i h small,
      bit_at_not w64 n (min (k + i) 63) q j,
      bit_at-lt n (min (k + i) 63),
    ))

pub clear_arsh : (k n v m : ℕ) → n < 2 ^ 64 → m < 2 ^ 64 → v < 2 ^ 64 → clear n m ≡ v →
    clear (arsh k n) (arsh k m) ≡ arsh k v
clear_arsh k n v m p q r e =
    same_from_bits_below 64 (clear (arsh k n) (arsh k m)) (arsh k v) (clear_lt (arsh k n) (arsh k m) (arsh_lt k n p))
    (arsh_lt k v r)
    (λ i h. omega (
      arith,
      bit_at_clear (arsh k n) (arsh k m) i,
      bit_at_arsh k n i h p,
      bit_at_arsh k m i h q,
      bit_at_arsh k v i h r,
      bit_at_clear n m (min (k + i) 63),
      ap (λ x. bit_at x (min (k + i) 63)) e,
    ))
