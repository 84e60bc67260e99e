-- What a link says of a number, its other forms say of what instructions compute of that number.
use Rattle.std.proofs.Common.{◌≡◌, ℕ, ◌+◌, ◌-◌, ◌*◌, ◌/◌, ◌%◌, ◌^◌, ◌<◌, ◌≤◌, cond, refl, ap, ◌∙◌, sym, subst, arith, rules}
use Rattle.std.specs.Prelude.{bit_and, ◌==◌, ◌&&◌, nat_le, Some}
use Rattle.std.specs.Int.{w32, w64, cast_signed, cast_unsigned, int_shr}
use Rattle.std.proofs.Math.Nat.{mod-eq_of_lt}
use Rattle.std.proofs.lemmas.Int.{ints}
use Rattle.std.proofs.lemmas.Nat.{and_mask, and_assoc}
use Rattle.std.proofs.lemmas.Nat.Bits.{and_high_mask}
use Rattle.std.proofs.lemmas.Bool.{and_parts, eqb-true, leb-true, cond_both}
use Rattle.bpf_decode.specs.declared.value.Value.TheVariants as values
use Rattle.bpf_decode.specs.declared.operation.OpWidth.{OpWidth}
use Rattle.bpf_decode.specs.declared.operation.OpWidth.TheVariants.{Bits32, Bits64}
use Rattle.bpf_decode.specs.declared.operation.Arithmetic.{Arithmetic}
use Rattle.bpf_decode.specs.declared.operation.Arithmetic.TheVariants.{Add, Sub, Mul, Div, SignedDiv, Or, And, Lsh, Rsh, Mod, SignedMod, Xor, Arsh}
use Rattle.bpf_decode.specs.declared.operation.SignedMove.TheVariants.{Word64}
use Rattle.bpf_decode.specs.Arithmetic.{alu_value, mov_value, signed_move_value}
use Rattle.abstract_num.specs.Plain.{Plain, Holds}
use Rattle.abstract_num.specs.UnsignedRows.{digits}
use Rattle.abstract_regs.specs.declared.link.Link.{Link}
use Rattle.abstract_regs.specs.declared.link.LinkForm.{LinkForm}
use Rattle.abstract_regs.specs.declared.link.LinkForm.TheVariants.{Unlinked, Whole, Low, Up, Sign}
use Rattle.abstract_regs.specs.Link.{no_link, low_form, up_form, sign_form, down_form, HoldsForm, HoldsLink, shaped, moved_link, is_ones}
use Rattle.abstract_regs.specs.Links.{shifted_link, masked_link, alu_link}

-- ---- bits

low_and : (n : ℕ) → bit_and n (2 ^ 31) ≡ bit_and (n % 2 ^ 32) (2 ^ 31)
low_and n =
    let inner : bit_and (2 ^ 32 - 1) (2 ^ 31) ≡ 2 ^ 31 = refl in
    ap (bit_and n) (sym inner) ∙ sym (and_assoc (2 ^ 31) n (2 ^ 32 - 1)) ∙ ap (λ x. bit_and x (2 ^ 31)) (and_mask n 32)

pub sign_bit : (n : ℕ) → bit_and n (2 ^ 31) ≡ n / 2 ^ 31 % 2 * 2 ^ 31
sign_bit n =
    let short : n % 2 ^ 32 < 2 ^ 32 = omega arith in
    let high : bit_and (n % 2 ^ 32) (2 ^ 32 - 2 ^ 31) ≡ n % 2 ^ 32 / 2 ^ 31 * 2 ^ 31 = and_high_mask 32 31 (omega arith) (n % 2 ^ 32) short in
    let same : n % 2 ^ 32 / 2 ^ 31 * 2 ^ 31 ≡ n / 2 ^ 31 % 2 * 2 ^ 31 = omega arith in
    low_and n ∙ high ∙ same

-- a number that the bits have room for
ones_keep : (n c d : ℕ) → c ≡ 2 ^ d - 1 → n ≤ c → bit_and n c ≡ n
ones_keep n c d e le =
    let below : n % 2 ^ d ≡ n = mod-eq_of_lt (omega (arith, e, le, some d)) in
    ap (bit_and n) e ∙ and_mask n d ∙ below
  where
    some : (d : ℕ) → 1 ≤ 2 ^ d
    some d = search rules

-- ---- forms

module _ (numbers : ℕ → ℕ) (d j : ℕ) where
  abbrev M : ℕ
  M = (numbers j + d) % 2 ^ 64

  abbrev of : LinkForm → Link
  of form = record { distance = d; name = j; form = form }

  moved_true : (form : LinkForm) (n by : ℕ) → HoldsForm form M (Some (values.Num n)) → HoldsLink numbers (moved_link (of form) by) (Some (values.Num ((n + by) % 2 ^ 64)))
  moved_true Unlinked n by h = tt
  moved_true Whole n by h = omega (arith, h)
  moved_true Low n by h = tt
  moved_true Up n by h = tt
  moved_true Sign n by h = tt

  low_true : (form : LinkForm) (n v : ℕ) → HoldsForm form M (Some (values.Num n)) → v % 2 ^ 32 ≡ n % 2 ^ 32 → HoldsLink numbers (shaped (of form) (low_form form)) (Some (values.Num v))
  low_true Unlinked n v h e = tt
  low_true Whole n v h e = e ∙ ap (λ x. x % 2 ^ 32) h
  low_true Low n v h e = e ∙ h
  low_true Up n v h e = tt
  low_true Sign n v h e = tt

  up_true : (form : LinkForm) (n v : ℕ) → HoldsForm form M (Some (values.Num n)) → v ≡ n * 2 ^ 32 % 2 ^ 64 → HoldsLink numbers (shaped (of form) (up_form form)) (Some (values.Num v))
  up_true Unlinked n v h e = tt
  up_true Whole n v h e = e ∙ ap (λ x. x * 2 ^ 32 % 2 ^ 64) h
  up_true Low n v h e =
      let m = M in
      let same : n % 2 ^ 32 ≡ m % 2 ^ 32 = h in
      let up : n * 2 ^ 32 % 2 ^ 64 ≡ m * 2 ^ 32 % 2 ^ 64 = halves n m same in e ∙ up
    where
      halves : (n m : ℕ) → n % 2 ^ 32 ≡ m % 2 ^ 32 → n * 2 ^ 32 % 2 ^ 64 ≡ m * 2 ^ 32 % 2 ^ 64
      halves n m e = omega (arith, e)
  up_true Up n v h e = tt
  up_true Sign n v h e = tt

  down_true : (form : LinkForm) (n v : ℕ) → HoldsForm form M (Some (values.Num n)) → (n % 2 ^ 32 ≡ 0 → v % 2 ^ 32 ≡ n / 2 ^ 32 % 2 ^ 32) → HoldsLink numbers (shaped (of form) (down_form form)) (Some (values.Num v))
  down_true Unlinked n v h e = tt
  down_true Whole n v h e = tt
  down_true Low n v h e = tt
  down_true Up n v h e =
      let is : n ≡ M * 2 ^ 32 % 2 ^ 64 = h in
      let none : n % 2 ^ 32 ≡ 0 = multiple n M is in
      e none ∙ back n M is
    where
      multiple : (n m : ℕ) → n ≡ m * 2 ^ 32 % 2 ^ 64 → n % 2 ^ 32 ≡ 0
      multiple n m e = omega (arith, e)

      back : (n m : ℕ) → n ≡ m * 2 ^ 32 % 2 ^ 64 → n / 2 ^ 32 % 2 ^ 32 ≡ m % 2 ^ 32
      back n m e = omega (arith, e)
  down_true Sign n v h e = tt

  sign_true : (form : LinkForm) (n v : ℕ) → HoldsForm form M (Some (values.Num n)) → v ≡ n / 2 ^ 31 % 2 * 2 ^ 31 → HoldsLink numbers (shaped (of form) (sign_form form)) (Some (values.Num v))
  sign_true Unlinked n v h e = tt
  sign_true Whole n v h e = e ∙ ap (λ x. x / 2 ^ 31 % 2 * 2 ^ 31) h
  sign_true Low n v h e = e ∙ same n M h
    where
      same : (n m : ℕ) → n % 2 ^ 32 ≡ m % 2 ^ 32 → n / 2 ^ 31 % 2 * 2 ^ 31 ≡ m / 2 ^ 31 % 2 * 2 ^ 31
      same n m e = omega (arith, e)
  sign_true Up n v h e = tt
  sign_true Sign n v h e = tt

-- ---- arithmetic with a constant

module _ (numbers : ℕ → ℕ) (l : Link) (k : Plain) (n : ℕ) (held : Holds k n) (true_of : HoldsLink numbers l (Some (values.Num n))) where
  -- a shift by 32, or none
  shift_true : (c v : ℕ) (m : Link) → (c % 64 ≡ 32 → HoldsLink numbers m (Some (values.Num v))) → HoldsLink numbers (shifted_link c m) (Some (values.Num v))
  shift_true c v m h = cond_both (c % 64 == 32) m no_link (λ x. HoldsLink numbers x (Some (values.Num v))) (λ e. h (eqb-true (c % 64) 32 e)) (λ _. tt)

  mask_true : (c v : ℕ) → (n ≤ c → bit_and n c ≡ n → v ≡ n) → (c ≡ 2 ^ 31 → v ≡ n / 2 ^ 31 % 2 * 2 ^ 31) → HoldsLink numbers (masked_link k c l) (Some (values.Num v))
  mask_true c v whole sign =
      cond_both (is_ones c && nat_le k.high c) l (cond (c == 2 ^ 31) (shaped l (sign_form l.form)) no_link) (λ x. HoldsLink numbers x (Some (values.Num v)))
      (λ e.
      let both = and_parts (is_ones c) (nat_le k.high c) e in
      let high = leb-true k.high c both.1 in
      let le : n ≤ c = omega (arith, high, held.below) in
      subst (λ x. HoldsLink numbers l (Some (values.Num x))) (sym (whole le (ones_keep n c (digits c) (eqb-true c (2 ^ digits c - 1) both.0) le))) true_of)
      (λ _. cond_both (c == 2 ^ 31) (shaped l (sign_form l.form)) no_link (λ x. HoldsLink numbers x (Some (values.Num v)))
      (λ e. sign_true numbers l.distance l.name l.form n v true_of (sign (eqb-true c (2 ^ 31) e))) (λ _. tt))

  shl : (m : ℕ) → m % 64 ≡ 32 → alu_value Bits64 Lsh n m ≡ n * 2 ^ 32 % 2 ^ 64
  shl m e = ap (λ s. (n * 2 ^ s) % 2 ^ 64) e

  shr : (m : ℕ) → m % 64 ≡ 32 → n % 2 ^ 32 ≡ 0 → alu_value Bits64 Rsh n m % 2 ^ 32 ≡ n / 2 ^ 32 % 2 ^ 32
  shr m e none = ap (λ s. n / 2 ^ s % 2 ^ 32) e

  pub constant_true : (bits : OpWidth) (operation : Arithmetic) (m : ℕ) → m < 2 ^ 64 → HoldsLink numbers (alu_link bits operation k (mov_value bits m) l) (Some (values.Num (alu_value bits operation n m)))
  constant_true Bits64 Add m h = moved_true numbers l.distance l.name l.form n m true_of
  constant_true Bits64 Sub m h = moved_true numbers l.distance l.name l.form n (2 ^ 64 - m) true_of
  constant_true Bits64 Mul m h = tt
  constant_true Bits64 Div m h = tt
  constant_true Bits64 SignedDiv m h = tt
  constant_true Bits64 Or m h = tt
  constant_true Bits64 And m h = mask_true m (bit_and n m) (λ le e. e) (λ e. ap (bit_and n) e ∙ sign_bit n)
  constant_true Bits64 Lsh m h = shift_true m (alu_value Bits64 Lsh n m) (shaped l (up_form l.form)) (λ e. up_true numbers l.distance l.name l.form n (alu_value Bits64 Lsh n m) true_of (shl m e))
  constant_true Bits64 Rsh m h = shift_true m (alu_value Bits64 Rsh n m) (shaped l (down_form l.form)) (λ e. down_true numbers l.distance l.name l.form n (alu_value Bits64 Rsh n m) true_of (shr m e))
  constant_true Bits64 Mod m h = tt
  constant_true Bits64 SignedMod m h = tt
  constant_true Bits64 Xor m h = tt
  constant_true Bits64 Arsh m h = shift_true m (alu_value Bits64 Arsh n m) (shaped l (down_form l.form)) (λ e. down_true numbers l.distance l.name l.form n (alu_value Bits64 Arsh n m) true_of (λ none. ap (λ s. cast_unsigned w64 (int_shr (cast_signed w64 n) s) % 2 ^ 32) e ∙ arsh n held.fits none))
    where
      arsh : (n : ℕ) → n < 2 ^ 64 → n % 2 ^ 32 ≡ 0 → cast_unsigned w64 (int_shr (cast_signed w64 n) 32) % 2 ^ 32 ≡ n / 2 ^ 32 % 2 ^ 32
      arsh n small none = grind (arith, ints)
  constant_true Bits32 Add m h = tt
  constant_true Bits32 Sub m h = tt
  constant_true Bits32 Mul m h = tt
  constant_true Bits32 Div m h = tt
  constant_true Bits32 SignedDiv m h = tt
  constant_true Bits32 Or m h = tt
  constant_true Bits32 And m h =
      mask_true (m % 2 ^ 32) (bit_and (n % 2 ^ 32) (m % 2 ^ 32))
      (λ le e. let short : n % 2 ^ 32 ≡ n = omega (arith, le) in ap (λ x. bit_and x (m % 2 ^ 32)) short ∙ e)
      (λ e. ap (bit_and (n % 2 ^ 32)) e ∙ sym (low_and n) ∙ sign_bit n)
  constant_true Bits32 Lsh m h = tt
  constant_true Bits32 Rsh m h = tt
  constant_true Bits32 Mod m h = tt
  constant_true Bits32 SignedMod m h = tt
  constant_true Bits32 Xor m h = tt
  constant_true Bits32 Arsh m h = tt

-- ---- copies of the low half

module _ (numbers : ℕ → ℕ) (l : Link) (n : ℕ) (true_of : HoldsLink numbers l (Some (values.Num n))) where
  pub half_true : (v : ℕ) → v % 2 ^ 32 ≡ n % 2 ^ 32 → HoldsLink numbers (shaped l (low_form l.form)) (Some (values.Num v))
  half_true v e = low_true numbers l.distance l.name l.form n v true_of e

pub low_half : (n : ℕ) → mov_value Bits32 n % 2 ^ 32 ≡ n % 2 ^ 32
low_half n = omega arith

pub extended_half : (n : ℕ) → signed_move_value Word64 n % 2 ^ 32 ≡ n % 2 ^ 32
extended_half n = let small : n % 2 ^ 32 < 2 ^ 32 = omega arith in of_half (n % 2 ^ 32) small
  where
    of_half : (t : ℕ) → t < 2 ^ 32 → cast_unsigned w64 (cast_signed w32 t) % 2 ^ 32 ≡ t
    of_half t h = grind (arith, ints)
