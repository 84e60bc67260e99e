-- Proved; nothing here need be believed.
-- The known bits keep every number.
use Rattle.std.specs.Prelude.{ℕ, ◌+◌, ◌-◌, ◌*◌, ◌/◌, ◌%◌, ◌^◌, min, ◌≡◌, ◌<◌, bit_and, bit_or, bit_xor}
use Rattle.std.specs.Int.{w64, bit_at, bit_not}
use Rattle.std.proofs.Common.{sym, ap, ◌∙◌, arith, add-zero}
use Rattle.std.proofs.lemmas.Nat.{and_le_l, and_mod, xor_mod, and_shr, xor_shr, and_block, xor_block, pow_pos}
use Rattle.std.proofs.lemmas.Nat.Bits.{bit_at_and, bit_at_or, bit_at_xor, bit_at_not, bit_at-lt, bit_at-zero}
use Rattle.std.proofs.lemmas.Nat.Bits.{bit_at_ones, same_from_bits, same_from_bits_below}
use Rattle.abstract_num.specs.proved.Shifts.{arsh, arsh_lt, bit_at_arsh, clear_arsh}
use Rattle.abstract_num.specs.proved.KnownBits.{apart_at}
use Rattle.abstract_num.specs.Masks.{clear}
use Rattle.abstract_num.specs.proved.PartsFit.{clear_lt, bit_at_clear}
use Rattle.abstract_num.specs.Meaning.{row_value}
use Rattle.abstract_num.specs.proved.RowsFit.{row_value_fits}
use Rattle.abstract_num.specs.Parts.{InBits}
use Rattle.abstract_num.specs.BitsRows.{bits_row, unknown}
use Rattle.abstract_num.specs.declared.row.Row.{Row}
use Rattle.abstract_num.specs.declared.row.Row.TheVariants.{Add, Sub, Mul, Div, Mod, And, Or, Xor, LshBy, RshBy, Rsh}
use Rattle.abstract_num.specs.declared.row.Row.TheVariants.{ArshBy, Arsh, SignedLshBy, SignedArshBy, Cut}
use Rattle.abstract_num.specs.declared.bits.Bits.{Bits}

and_shl : (a b k : ℕ) → bit_and (a * 2 ^ k) (b * 2 ^ k) ≡ bit_and a b * 2 ^ k
and_shl a b k = simp add-zero at (and_block k a b 0 0 (pow_pos k) (pow_pos k))

xor_shl : (a b k : ℕ) → bit_xor (a * 2 ^ k) (b * 2 ^ k) ≡ bit_xor a b * 2 ^ k
xor_shl a b k = simp add-zero at (xor_block k a b 0 0 (pow_pos k) (pow_pos k))

clear_shl : (n m k : ℕ) → clear (n * 2 ^ k) (m * 2 ^ k) ≡ clear n m * 2 ^ k
clear_shl n m k = ap (λ x. bit_xor (n * 2 ^ k) x) (and_shl n m k) ∙ xor_shl n (bit_and n m) k

clear_mod : (n m k : ℕ) → clear (n % 2 ^ k) (m % 2 ^ k) ≡ clear n m % 2 ^ k
clear_mod n m k = ap (λ x. bit_xor (n % 2 ^ k) x) (sym (and_mod n m k)) ∙ sym (xor_mod n (bit_and n m) k)

clear_shr : (n m k : ℕ) → clear (n / 2 ^ k) (m / 2 ^ k) ≡ clear n m / 2 ^ k
clear_shr n m k = ap (λ x. bit_xor (n / 2 ^ k) x) (sym (and_shr n m k)) ∙ sym (xor_shr n (bit_and n m) k)

-- Shifted parts have no bit in common, and neither have those of a table's row.
pub apart_clear : (v m : ℕ) → bit_and v (clear m v) ≡ 0
apart_clear v m =
    same_from_bits (bit_and v (clear m v)) 0
    (λ i. omega (arith, bit_at_and v (clear m v) i, bit_at_clear m v i, bit_at-zero i, bit_at-lt v i, bit_at-lt m i))

zero_mod : (k : ℕ) → 0 % 2 ^ k ≡ 0
zero_mod k = omega (arith, pow_pos k)

pub apart_mod : (v m k : ℕ) → bit_and v m ≡ 0 → bit_and (v % 2 ^ k) (m % 2 ^ k) ≡ 0
apart_mod v m k e = sym (and_mod v m k) ∙ ap (λ x. x % 2 ^ k) e ∙ zero_mod k

pub apart_shl : (v m k : ℕ) → bit_and v m ≡ 0 → bit_and (v * 2 ^ k) (m * 2 ^ k) ≡ 0
apart_shl v m k e = and_shl v m k ∙ ap (λ x. x * 2 ^ k) e ∙ omega arith

pub apart_shr : (v m k : ℕ) → bit_and v m ≡ 0 → bit_and (v / 2 ^ k) (m / 2 ^ k) ≡ 0
apart_shr v m k e = sym (and_shr v m k) ∙ ap (λ x. x / 2 ^ k) e ∙ omega (arith, pow_pos k)

pub apart_arsh : (k v m : ℕ) → v < 2 ^ 64 → m < 2 ^ 64 → bit_and v m ≡ 0 → bit_and (arsh k v) (arsh k m) ≡ 0
apart_arsh k v m p q e =
    same_from_bits_below 64 (bit_and (arsh k v) (arsh k m)) 0
    (omega (arith, and_le_l (arsh k v) (arsh k m), arsh_lt k v p)) (omega arith)
    (λ i h. omega (
      arith,
      bit_at_and (arsh k v) (arsh k m) i,
      bit_at_arsh k v i h p,
      bit_at_arsh k m i h q,
      apart_at v m e (min (k + i) 63),
      bit_at-zero i,
    ))

pub clear_zero : (n : ℕ) → clear n 0 ≡ n
clear_zero n =
    same_from_bits (clear n 0) n (λ i. omega (arith, bit_at_clear n 0 i, bit_at-zero i, bit_at-lt n i))

-- the code's `v & !m`
pub and_not : (v m : ℕ) → v < 2 ^ 64 → m < 2 ^ 64 → bit_and v (bit_not w64 m) ≡ clear v m
and_not v m p q =
    same_from_bits_below 64 (bit_and v (bit_not w64 m)) (clear v m) (omega (arith, and_le_l v (bit_not w64 m)))
    (clear_lt v m p)
    (λ i h. omega (
      arith,
      bit_at_and v (bit_not w64 m) i,
      bit_at_not w64 m i q h,
      bit_at_clear v m i,
      bit_at-lt v i,
      bit_at-lt m i,
    ))

-- n agrees with a value and a mask
abbrev pub Agrees : ℕ × ℕ → ℕ → Type 0
Agrees e n = clear n e.1 ≡ e.0

-- at a place that is known, the bit is the value's
pub at : (n v m : ℕ) → clear n m ≡ v → (i : ℕ) → bit_at n i - bit_at m i ≡ bit_at v i
at n v m h i = sym (bit_at_clear n m i) ∙ ap (λ x. bit_at x i) h

-- what a row gives of numbers that agree
abbrev Keeps : Row → Type 0
Keeps r = (v1 m1 v2 m2 k n : ℕ) → m1 < 2 ^ 64 → k < 2 ^ 64 → n < 2 ^ 64 → clear k m1 ≡ v1 → clear n m2 ≡ v2
    → Agrees (bits_row r v1 m1 v2 m2) (row_value r k n)

and_keeps : Keeps And
and_keeps v1 m1 v2 m2 k n a f g p q =
    let v = bit_and v1 v2 in
    let u = bit_and (bit_or v1 m1) (bit_or v2 m2) in
    same_from_bits (clear (bit_and k n) (clear u v)) v
    (λ i. omega (
      arith,
      bit_at_clear (bit_and k n) (clear u v) i,
      bit_at_clear u v i,
      bit_at_and k n i,
      bit_at_and v1 v2 i,
      bit_at_and (bit_or v1 m1) (bit_or v2 m2) i,
      bit_at_or v1 m1 i,
      bit_at_or v2 m2 i,
      at k v1 m1 p i,
      at n v2 m2 q i,
      bit_at-lt k i,
      bit_at-lt n i,
      bit_at-lt m1 i,
      bit_at-lt m2 i,
    ))

or_keeps : Keeps Or
or_keeps v1 m1 v2 m2 k n a f g p q =
    let v = bit_or v1 v2 in
    let u = bit_or m1 m2 in
    same_from_bits (clear (bit_or k n) (clear u v)) v
    (λ i. omega (
      arith,
      bit_at_clear (bit_or k n) (clear u v) i,
      bit_at_clear u v i,
      bit_at_or k n i,
      bit_at_or v1 v2 i,
      bit_at_or m1 m2 i,
      at k v1 m1 p i,
      at n v2 m2 q i,
      bit_at-lt k i,
      bit_at-lt n i,
      bit_at-lt m1 i,
      bit_at-lt m2 i,
    ))

xor_keeps : Keeps Xor
xor_keeps v1 m1 v2 m2 k n a f g p q =
    let v = bit_xor v1 v2 in
    let u = bit_or m1 m2 in
    same_from_bits (clear (bit_xor k n) u) (clear v u)
    (λ i. omega (
      arith,
      bit_at_clear (bit_xor k n) u i,
      bit_at_clear v u i,
      bit_at_xor k n i,
      bit_at_xor v1 v2 i,
      bit_at_or m1 m2 i,
      at k v1 m1 p i,
      at n v2 m2 q i,
      bit_at-lt k i,
      bit_at-lt n i,
      bit_at-lt m1 i,
      bit_at-lt m2 i,
    ))

pub lsh_agrees : (s v m n : ℕ) → clear n m ≡ v → Agrees (bits_row (LshBy s) v m 0 0) (row_value (LshBy s) n 0)
lsh_agrees s v m n p = clear_mod _ _ 64 ∙ ap (λ v. v % 2 ^ 64) (clear_shl n m (s % 64) ∙ ap (λ v. v * 2 ^ (s % 64)) p)

lsh_by_keeps : (s : ℕ) → Keeps (LshBy s)
lsh_by_keeps s v1 m1 v2 m2 k n a f g p q = lsh_agrees s v1 m1 k p

rsh_by_keeps : (s : ℕ) → Keeps (RshBy s)
rsh_by_keeps s v1 m1 v2 m2 k n a f g p q = clear_shr k m1 (s % 64) ∙ ap (λ v. v / 2 ^ (s % 64)) p

value_lt : (k v m : ℕ) → k < 2 ^ 64 → clear k m ≡ v → v < 2 ^ 64
value_lt k v m f p = omega (arith, p, clear_lt k m f)

arsh_by_keeps : (s : ℕ) → Keeps (ArshBy s)
arsh_by_keeps s v1 m1 v2 m2 k n a f g p q = clear_arsh (s % 64) k v1 m1 f a (value_lt k v1 m1 f p) p

pub cut_agrees : (v m n : ℕ) → clear n m ≡ v → clear (n % 2 ^ 32) (m % 2 ^ 32) ≡ v % 2 ^ 32
cut_agrees v m n p = clear_mod n m 32 ∙ ap (λ x. x % 2 ^ 32) p

cut_keeps : Keeps Cut
cut_keeps v1 m1 v2 m2 k n a f g p q = cut_agrees v1 m1 k p

pub unknown_keeps : (n : ℕ) → n < 2 ^ 64 → Agrees unknown n
unknown_keeps n h =
    same_from_bits_below 64 (clear n (2 ^ 64 - 1)) 0 (clear_lt n (2 ^ 64 - 1) h) (omega arith)
    (λ i b. omega (arith, bit_at_clear n (2 ^ 64 - 1) i, bit_at_ones 64 i b, bit_at-lt n i, bit_at-zero i))

pub bits_row_keeps : (r : Row) → Keeps r
bits_row_keeps Add v1 m1 v2 m2 k n a f g p q = unknown_keeps (row_value Add k n) (row_value_fits Add k n f g)
bits_row_keeps Sub v1 m1 v2 m2 k n a f g p q = unknown_keeps (row_value Sub k n) (row_value_fits Sub k n f g)
bits_row_keeps Mul v1 m1 v2 m2 k n a f g p q = unknown_keeps (row_value Mul k n) (row_value_fits Mul k n f g)
bits_row_keeps Div v1 m1 v2 m2 k n a f g p q = unknown_keeps (row_value Div k n) (row_value_fits Div k n f g)
bits_row_keeps Mod v1 m1 v2 m2 k n a f g p q = unknown_keeps (row_value Mod k n) (row_value_fits Mod k n f g)
bits_row_keeps And v1 m1 v2 m2 k n a f g p q = and_keeps v1 m1 v2 m2 k n a f g p q
bits_row_keeps Or v1 m1 v2 m2 k n a f g p q = or_keeps v1 m1 v2 m2 k n a f g p q
bits_row_keeps Xor v1 m1 v2 m2 k n a f g p q = xor_keeps v1 m1 v2 m2 k n a f g p q
bits_row_keeps (LshBy s) v1 m1 v2 m2 k n a f g p q = lsh_by_keeps s v1 m1 v2 m2 k n a f g p q
bits_row_keeps (RshBy s) v1 m1 v2 m2 k n a f g p q = rsh_by_keeps s v1 m1 v2 m2 k n a f g p q
bits_row_keeps Rsh v1 m1 v2 m2 k n a f g p q = unknown_keeps (row_value Rsh k n) (row_value_fits Rsh k n f g)
bits_row_keeps (ArshBy s) v1 m1 v2 m2 k n a f g p q = arsh_by_keeps s v1 m1 v2 m2 k n a f g p q
bits_row_keeps Arsh v1 m1 v2 m2 k n a f g p q = unknown_keeps (row_value Arsh k n) (row_value_fits Arsh k n f g)
bits_row_keeps (SignedLshBy s) v1 m1 v2 m2 k n a f g p q = lsh_by_keeps s v1 m1 v2 m2 k n a f g p q
bits_row_keeps (SignedArshBy s) v1 m1 v2 m2 k n a f g p q = arsh_by_keeps s v1 m1 v2 m2 k n a f g p q
bits_row_keeps Cut v1 m1 v2 m2 k n a f g p q = cut_keeps v1 m1 v2 m2 k n a f g p q

-- the value and the unknown bits
abbrev pub IsMask : Bits → ℕ × ℕ → Type 0
IsMask z e = (z.value ≡ e.0) × (z.unknown ≡ e.1)

abbrev pub BitsMove : Row → Bits → Bits → Bits → Type 0
BitsMove r x y z = IsMask z (bits_row r x.value x.unknown y.value y.unknown)

pub bits_move_sound : (r : Row) (x y z : Bits) → BitsMove r x y z → (m n : ℕ) → InBits x m → InBits y n →
    InBits z (row_value r m n)
bits_move_sound r x y z e m n p q =
    let h = bits_row_keeps r x.value x.unknown y.value y.unknown m n x.unknown_fits p.1 q.1 p.0 q.0 in
    (ap (λ (u : ℕ). clear (row_value r m n) u) e.1 ∙ h ∙ sym e.0, row_value_fits r m n p.1 q.1)
