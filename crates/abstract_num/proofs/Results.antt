-- What the operations compute of numbers below 2 to the bits of their width is below it too.
use Rattle.std.proofs.Common.{ℕ, ℤ, pos, negsuc, zero, suc, ◌/◌, ◌%◌, ◌^◌, ◌<◌, ◌≤◌, arith}
use Rattle.std.specs.Prelude.{int_div, int_rem, ◌==◌}
use Rattle.std.specs.Int.{Width, w8, w16, w32, w64, cast_signed, cast_unsigned, int_shr, swap_bytes}
use Rattle.std.specs.Int.Signed.{mag, mag_rem, mag_shr}
use Rattle.std.proofs.Math.IntN.{neg_ℤ}
use Rattle.std.proofs.Math.Facts.{sfits_to_z}
use Rattle.std.proofs.Math.Nat.{div-le_self, mod-le}
use Rattle.std.proofs.lemmas.Nat.{or_lt, xor_lt, and_le_l}
use Rattle.std.proofs.lemmas.Bool.{cond_both}
use mir.Val.{bits, hbits}
use Rattle.bpf_decode.specs.declared.operation.Arithmetic.{Arithmetic}
use Rattle.bpf_decode.specs.declared.operation.Arithmetic.TheVariants.{Add, Sub, Mul, Div, SignedDiv, Or, And, Lsh, Rsh, Mod, SignedMod, Xor, Arsh}
use Rattle.bpf_decode.specs.declared.operation.SignedMove.{SignedMove}
use Rattle.bpf_decode.specs.declared.operation.SignedMove.TheVariants.{Byte64, Half64, Word64, Byte32, Half32}
use Rattle.bpf_decode.specs.declared.operation.ByteOrder.{ByteOrder}
use Rattle.bpf_decode.specs.declared.operation.ByteOrder.TheVariants.{ToLittle, ToBig, Swap}
use Rattle.bpf_decode.specs.declared.operation.EndWidth.{EndWidth}
use Rattle.bpf_decode.specs.declared.operation.EndWidth.TheVariants.{End16, End32, End64}
use Rattle.bpf_decode.specs.Arithmetic.{computed, signed_move_value, end_width, end_value}

-- a number of a width as two's complement
of_z_small : (w : Width) (z : ℤ) → 0 < 2 ^ bits w → mag z < 2 ^ bits w → cast_unsigned w z < 2 ^ bits w
of_z_small w (pos n) p h = h
of_z_small w (negsuc n) p h = omega arith

-- 32 and 64 bits
pub data Machine : Width → Type 0 where
  Is32 : Machine w32
  Is64 : Machine w64

some_bits : (w : Width) → Machine w → 0 < 2 ^ bits w
some_bits w Is32 = omega arith
some_bits w Is64 = omega arith

half_small : (w : Width) (n : ℕ) → Machine w → n < 2 ^ hbits w → suc n < 2 ^ bits w
half_small w n Is32 h = omega arith
half_small w n Is64 h = omega arith

mag_signed : (w : Width) (n : ℕ) → n < 2 ^ bits w → mag (cast_signed w n) < 2 ^ hbits w
mag_signed w n h = (sfits_to_z (record { fits = h })).sfits

-- the negative of a number, and a quotient toward zero
mag_neg : (r : ℕ) → mag (neg_ℤ (pos r)) ≤ r
mag_neg zero = omega arith
mag_neg (suc n) = omega arith

mag_quotient : (z d : ℤ) → mag (int_div z d) ≤ suc (mag z)
mag_quotient (pos a) (pos b) = omega (arith, div-le_self a b)
mag_quotient (pos a) (negsuc b) = omega (arith, mag_neg (a / suc b), div-le_self a (suc b))
mag_quotient (negsuc a) (pos b) = omega (arith, mag_neg (suc a / b), div-le_self (suc a) b)
mag_quotient (negsuc a) (negsuc b) = omega (arith, div-le_self (suc a) (suc b))

module _ (w : Width) (machine : Machine w) (m n : ℕ) (p : m < 2 ^ bits w) (q : n < 2 ^ bits w) where
  quotient_small : cast_unsigned w (int_div (cast_signed w m) (cast_signed w n)) < 2 ^ bits w
  quotient_small =
      let a = mag_quotient (cast_signed w m) (cast_signed w n) in
      let b = half_small w (mag (cast_signed w m)) machine (mag_signed w m p) in
      of_z_small w (int_div (cast_signed w m) (cast_signed w n)) (some_bits w machine) (omega arith)

  remainder_small : cast_unsigned w (int_rem (cast_signed w m) (cast_signed w n)) < 2 ^ bits w
  remainder_small =
      let a = mag_rem (cast_signed w m) (cast_signed w n) in
      let b = half_small w (mag (cast_signed w m)) machine (mag_signed w m p) in
      of_z_small w (int_rem (cast_signed w m) (cast_signed w n)) (some_bits w machine) (omega arith)

  shifted_small : cast_unsigned w (int_shr (cast_signed w m) (n % bits w)) < 2 ^ bits w
  shifted_small =
      let a = mag_shr (cast_signed w m) (2 ^ (n % bits w)) in
      let b = half_small w (mag (cast_signed w m)) machine (mag_signed w m p) in
      of_z_small w (int_shr (cast_signed w m) (n % bits w)) (some_bits w machine) (omega arith)

  pub computed_small : (operation : Arithmetic) → computed operation w m n < 2 ^ bits w
  computed_small Add = let s = some_bits w machine in omega arith
  computed_small Sub = let s = some_bits w machine in omega arith
  computed_small Mul = let s = some_bits w machine in omega arith
  computed_small Div = let s = some_bits w machine in cond_both (n == 0) 0 (m / n) (λ k. k < 2 ^ bits w) (λ _. s) (λ _. omega (arith, div-le_self m n))
  computed_small SignedDiv = cond_both (n == 0) 0 _ (λ k. k < 2 ^ bits w) (λ _. some_bits w machine) (λ _. quotient_small)
  computed_small Or = or_lt (bits w) m n p q
  computed_small And = omega (arith, and_le_l m n)
  computed_small Lsh = let s = some_bits w machine in omega arith
  computed_small Rsh = omega (arith, div-le_self m (2 ^ (n % bits w)))
  computed_small Mod = cond_both (n == 0) m (m % n) (λ k. k < 2 ^ bits w) (λ _. p) (λ _. omega (arith, mod-le m n))
  computed_small SignedMod = cond_both (n == 0) m _ (λ k. k < 2 ^ bits w) (λ _. p) (λ _. remainder_small)
  computed_small Xor = xor_lt (bits w) m n p q
  computed_small Arsh = shifted_small

-- a narrow number with its sign
widened : (m : ℕ) → (z : ℤ) → mag z < 2 ^ 31 → cast_unsigned w64 z < 2 ^ 64
widened m z h = of_z_small w64 z (omega arith) (omega arith)

widened32 : (z : ℤ) → mag z < 2 ^ 31 → cast_unsigned w32 z < 2 ^ 64
widened32 z h = let s = of_z_small w32 z (omega arith) (omega arith) in omega arith

pub byte_mag : (m : ℕ) → m < 2 ^ 8 → mag (cast_signed w8 m) < 2 ^ 31
byte_mag m h = let s = mag_signed w8 m h in omega arith

pub half_mag : (m : ℕ) → m < 2 ^ 16 → mag (cast_signed w16 m) < 2 ^ 31
half_mag m h = let s = mag_signed w16 m h in omega arith

word_mag : (m : ℕ) → m < 2 ^ 32 → mag (cast_signed w32 m) < 2 ^ 31
word_mag m h = mag_signed w32 m h

pub signed_move_small : (extension : SignedMove) (m : ℕ) → signed_move_value extension m < 2 ^ 64
signed_move_small Byte64 m = widened m (cast_signed w8 (m % 2 ^ 8)) (byte_mag (m % 2 ^ 8) (omega arith))
signed_move_small Half64 m = widened m (cast_signed w16 (m % 2 ^ 16)) (half_mag (m % 2 ^ 16) (omega arith))
signed_move_small Word64 m = widened m (cast_signed w32 (m % 2 ^ 32)) (word_mag (m % 2 ^ 32) (omega arith))
signed_move_small Byte32 m = widened32 (cast_signed w8 (m % 2 ^ 8)) (byte_mag (m % 2 ^ 8) (omega arith))
signed_move_small Half32 m = widened32 (cast_signed w16 (m % 2 ^ 16)) (half_mag (m % 2 ^ 16) (omega arith))

-- of 32 bits it stays below 2 ^ 32
pub signed_move_short8 : (m : ℕ) → signed_move_value Byte32 m < 2 ^ 32
signed_move_short8 m =
    let s = byte_mag (m % 2 ^ 8) (omega arith) in of_z_small w32 (cast_signed w8 (m % 2 ^ 8)) (omega arith) (omega arith)

pub signed_move_short16 : (m : ℕ) → signed_move_value Half32 m < 2 ^ 32
signed_move_short16 m =
    let s = half_mag (m % 2 ^ 16) (omega arith) in of_z_small w32 (cast_signed w16 (m % 2 ^ 16)) (omega arith) (omega arith)

swap16 : (n : ℕ) → swap_bytes w16 n < 2 ^ 64
swap16 n = omega arith

swap32 : (n : ℕ) → swap_bytes w32 n < 2 ^ 64
swap32 n = omega arith

swap64 : (n : ℕ) → swap_bytes w64 n < 2 ^ 64
swap64 n = omega arith

swapped_small : (width : EndWidth) (m : ℕ) → swap_bytes (end_width width) m < 2 ^ 64
swapped_small End16 m = swap16 m
swapped_small End32 m = swap32 m
swapped_small End64 m = swap64 m

kept_small : (width : EndWidth) (m : ℕ) → m % 2 ^ bits (end_width width) < 2 ^ 64
kept_small End16 m = omega arith
kept_small End32 m = omega arith
kept_small End64 m = omega arith

pub end_value_small : (order : ByteOrder) (width : EndWidth) (m : ℕ) → end_value order width m < 2 ^ 64
end_value_small ToLittle width m = kept_small width m
end_value_small ToBig width m = swapped_small width (m % 2 ^ bits (end_width width))
end_value_small Swap width m = swapped_small width (m % 2 ^ bits (end_width width))
