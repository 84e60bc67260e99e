-- What the operations make of numbers keeps every number.
use Rattle.std.proofs.Common.{◌≡◌, ℕ, ◌*◌, ◌/◌, ◌%◌, ◌^◌, ◌<◌, true, cond, Option, Some, None, ap, sym, subst, ◌∙◌, refl, arith}
use Rattle.std.specs.Prelude.{ℤ, pos, negsuc, ◌*ℤ◌, ◌==◌, not, ◌&&◌, nat_lt, IsSomeAnd, option_and_then}
use Rattle.std.specs.Int.{w8, w16, w32, w64, cast_signed, cast_unsigned, int_shr}
use Rattle.std.specs.Int.Signed.{mag}
use lib.Signed.{shr_z}
use Rattle.std.proofs.lemmas.Bool.{eqb-true}
use Rattle.std.proofs.Math.Nat.{div-le_self}
use mathlib.Core.Path.{ap₂}
use Rattle.std.proofs.lemmas.Int.{ints}
use Rattle.std.proofs.lemmas.Nat.{and_le_l, or_lt, xor_lt, shr_le}
use Rattle.bpf_decode.specs.Arithmetic.{computed, alu_value, neg_value, mov_value, signed_move_value, end_value}
use Rattle.bpf_decode.specs.declared.operation.Arithmetic.{Arithmetic}
use Rattle.bpf_decode.specs.declared.operation.Arithmetic.TheVariants as op
use Rattle.bpf_decode.specs.declared.operation.OpWidth.{OpWidth}
use Rattle.bpf_decode.specs.declared.operation.OpWidth.TheVariants.{Bits32, Bits64}
use Rattle.bpf_decode.specs.declared.operation.SignedMove.{SignedMove}
use Rattle.bpf_decode.specs.declared.operation.SignedMove.TheVariants.{Byte64, Half64, Word64, Byte32, Half32}
use Rattle.bpf_decode.specs.declared.operation.ByteOrder.{ByteOrder}
use Rattle.bpf_decode.specs.declared.operation.EndWidth.{EndWidth}
use Rattle.abstract_num.specs.proved.Cases.{cond_both, and_first, and_second}
use Rattle.abstract_num.specs.Meaning.{row_value}
use Rattle.abstract_num.specs.proved.RowsFit.{row_value_fits}
use Rattle.abstract_num.specs.UnsignedRows.{unsigned_row}
use Rattle.abstract_num.specs.proved.UnsignedRows.{unsigned_row_keeps, lsh_between, cut_between}
use Rattle.abstract_num.specs.proved.SignedRows.{signed_row_keeps, signed_all_keeps, lsh_between as signed_lsh_between, raised_between}
use Rattle.abstract_num.specs.proved.HalfRows.{half_row_keeps, half_all_keeps, half_of_cut}
use Rattle.abstract_num.specs.proved.Scaled.{raised_is, byte_raised, half_raised, shr_of_product}
use Rattle.abstract_num.specs.Signed.{signed}
use Rattle.abstract_num.specs.proved.BitsRows.{bits_row_keeps, lsh_agrees, cut_agrees, unknown_keeps, clear_zero}
use Rattle.abstract_num.specs.Plain.{Plain, Number, Holds, any, constant, view}
use Rattle.abstract_num.specs.Tighten.{tighten}
use Rattle.abstract_num.specs.Transfer.{row_of, row_in, row_of_32, is_constant, count_of, raised_fits, lsh_answer, answer32, answer64, moved, raised, answered, known, cut, finished32, finished64, transferred, copied, bits_above, extended_from, extended_of, sign_extended, ordered}
use Rattle.abstract_num.specs.declared.precision.Precision.{Precision}
use Rattle.abstract_num.specs.declared.precision.Precision.TheVariants.{Whole, Halves}
use Rattle.abstract_num.specs.declared.row.Row.{Row}
use Rattle.abstract_num.specs.declared.row.Row.TheVariants as row
use Rattle.abstract_num.specs.declared.row.RowAnswer.{RowAnswer}
use Rattle.abstract_num.specs.declared.row.RowAnswer.TheVariants.{Exact, By, Raised, All}
use Rattle.abstract_num.proofs.Results.{byte_mag, half_mag, computed_small, signed_move_small, signed_move_short8, signed_move_short16, end_value_small, Is32, Is64}
use Rattle.abstract_num.proofs.Tight.{Fits, AllFit, any_half_holds, then_sound, tighten_sound, tighten_fits}

pub view_fits : (x : Number) → Fits (view x)
view_fits x = record { high = x.first.fits; unknown = x.second.second.first.unknown_fits }

any_fits : Fits any
any_fits = record { high = omega arith; unknown = omega arith }

pub any_holds : (n : ℕ) → n < 2 ^ 64 → Holds any n
any_holds n h =
    let s = signed_all_keeps n h in
    let e = half_all_keeps n in
    record { fits = h; above = omega arith; below = omega arith; at_least = s.0; at_most = s.1; agrees = unknown_keeps n h; half_at_least = e.0; half_at_most = e.1 }

pub constant_holds : (n : ℕ) → n < 2 ^ 64 → Holds (constant n) n
constant_holds n h =
    record { fits = h; above = omega arith; below = omega arith; at_least = omega (arith, ints); at_most = omega (arith, ints); agrees = clear_zero n; half_at_least = omega (arith, ints); half_at_most = omega (arith, ints) }

known_holds : (precision : Precision) (n : ℕ) → n < 2 ^ 64 → Holds (known precision n) n
known_holds Whole n h = any_half_holds (constant n) n (constant_holds n h)
known_holds Halves n h = constant_holds n h

pub moved_keeps : (r : Row) (x y : Plain) → Fits x → Fits y → (m n : ℕ) → Holds x m → Holds y n → Holds (moved r x y) (row_value r m n)
moved_keeps r x y f g m n h k =
    let u = unsigned_row_keeps r x.low x.high y.low y.high m n f.high g.high h.above h.below k.above k.below in
    let s = signed_row_keeps r x.least x.greatest y.least y.greatest m n h.fits k.fits h.at_least h.at_most k.at_least k.at_most in
    let b = bits_row_keeps r x.value x.unknown y.value y.unknown m n f.unknown h.fits k.fits h.agrees k.agrees in
    let e = half_row_keeps r x.half_least x.half_greatest y.half_least y.half_greatest m n k.fits h.half_at_least h.half_at_most k.half_at_least k.half_at_most in
    record { fits = row_value_fits r m n h.fits k.fits; above = u.0; below = u.1; at_least = s.0; at_most = s.1; agrees = b; half_at_least = e.0; half_at_most = e.1 }

-- LSH by 32 with the half's signed range
raised_holds : (x : Plain) (m : ℕ) → Holds x m → Holds (raised x) (row_value (row.LshBy 32) m 0)
raised_holds x m h =
    let u = lsh_between 32 x.low x.high m h.above h.below in
    let s = raised_between x.half_least x.half_greatest m h.half_at_least h.half_at_most in
    let b = lsh_agrees 32 x.value x.unknown m h.agrees in
    let e = half_all_keeps (row_value (row.LshBy 32) m 0) in
    record { fits = row_value_fits (row.LshBy 32) m 0 h.fits (omega arith); above = u.0; below = u.1; at_least = s.0; at_most = s.1; agrees = b; half_at_least = e.0; half_at_most = e.1 }

-- cutting
pub cut_keeps : (precision : Precision) (x : Plain) (n : ℕ) → Holds x n → IsSomeAnd (cut precision x) (λ z. Holds z (n % 2 ^ 32))
cut_keeps precision x n h =
    let small : n % 2 ^ 32 < 2 ^ 64 = omega arith in
    let u = cut_between x.low x.high n h.above h.below in
    let s = signed_all_keeps (n % 2 ^ 32) small in
    let e = half_of_cut n in
    tighten_sound precision (moved row.Cut x x) (n % 2 ^ 32)
    (record { fits = small; above = u.0; below = u.1; at_least = s.0; at_most = s.1; agrees = cut_agrees x.value x.unknown n h.agrees; half_at_least = rw e h.half_at_least; half_at_most = rw e h.half_at_most })

-- a constant is the one number that it holds
pub only : (x : Plain) (n : ℕ) → is_constant x ≡ true → Holds x n → n ≡ x.low
only x n e h = let a = h.above in let b = h.below in grind arith

-- what stands where the count is constant, and where it isn't
by_count : (P : Option ℕ → Type 0) (width : ℕ) (y : Plain) (n : ℕ) → Holds y n → (n ≡ y.low → P (Some (y.low % width))) → P None → P (count_of width y)
by_count P width y n h f g = cond_both P (is_constant y) (Some (y.low % width)) None (λ e. f (only y n e h)) (λ _. g)

module _ (precision : Precision) (x y : Plain) (f : Fits x) (g : Fits y) (m n : ℕ) (h : Holds x m) (k : Holds y n) where
  abbrev Kept64 : Arithmetic → RowAnswer → Type 0
  Kept64 operation answer = IsSomeAnd (finished64 precision answer x y) (λ z. Holds z (computed operation w64 m n))

  by_row : (r : Row) → IsSomeAnd (finished64 precision (By r) x y) (λ z. Holds z (row_value r m n))
  by_row r = tighten_sound precision (moved r x y) (row_value r m n) (moved_keeps r x y f g m n h k)

  by_row_of : (r : Row) (v : ℕ) → row_value r m n ≡ v → IsSomeAnd (finished64 precision (By r) x y) (λ z. Holds z v)
  by_row_of r v e = subst (λ (w : ℕ). IsSomeAnd (finished64 precision (By r) x y) (λ z. Holds z w)) e (by_row r)

  by_all : (operation : Arithmetic) → Kept64 operation All
  by_all operation =
      let v = computed operation w64 m n in
      tighten_sound precision any v (any_holds v (computed_small w64 Is64 m n h.fits k.fits operation))

  same_count : n ≡ y.low → (y.low % 64) % 64 ≡ n % 64
  same_count e = omega arith

  row_keeps64 : (operation : Arithmetic) → Kept64 operation (row_of operation (count_of 64 y))
  row_keeps64 op.Add = by_row row.Add
  row_keeps64 op.Sub = by_row row.Sub
  row_keeps64 op.Mul = by_row row.Mul
  row_keeps64 op.Div = by_row row.Div
  row_keeps64 op.SignedDiv = by_all op.SignedDiv
  row_keeps64 op.Or = by_row row.Or
  row_keeps64 op.And = by_row row.And
  row_keeps64 op.Lsh =
      by_count (λ c. Kept64 op.Lsh (row_of op.Lsh c)) 64 y n k
      (λ e. by_row_of (row.LshBy (y.low % 64)) (computed op.Lsh w64 m n) (ap (λ s. m * 2 ^ s % 2 ^ 64) (same_count e))) (by_all op.Lsh)
  row_keeps64 op.Rsh =
      by_count (λ c. Kept64 op.Rsh (row_of op.Rsh c)) 64 y n k
      (λ e. by_row_of (row.RshBy (y.low % 64)) (computed op.Rsh w64 m n) (ap (λ s. m / 2 ^ s) (same_count e))) (by_row row.Rsh)
  row_keeps64 op.Mod = by_row row.Mod
  row_keeps64 op.SignedMod = by_all op.SignedMod
  row_keeps64 op.Xor = by_row row.Xor
  row_keeps64 op.Arsh =
      by_count (λ c. Kept64 op.Arsh (row_of op.Arsh c)) 64 y n k
      (λ e. by_row_of (row.ArshBy (y.low % 64)) (computed op.Arsh w64 m n) (ap (λ s. cast_unsigned w64 (int_shr (cast_signed w64 m) s)) (same_count e))) (by_row row.Arsh)

  -- LSH by 32
  by_raised : (v : ℕ) → row_value (row.LshBy 32) m 0 ≡ v → IsSomeAnd (finished64 precision Raised x y) (λ z. Holds z v)
  by_raised v e = subst (λ (w : ℕ). IsSomeAnd (finished64 precision Raised x y) (λ z. Holds z w)) e (tighten_sound precision (raised x) (row_value (row.LshBy 32) m 0) (raised_holds x m h))

  shifted_by : (s : ℕ) → s ≡ y.low % 64 → n ≡ y.low → m * 2 ^ (s % 64) % 2 ^ 64 ≡ computed op.Lsh w64 m n
  shifted_by s a b = ap (λ k. m * 2 ^ (k % 64) % 2 ^ 64) a ∙ ap (λ k. m * 2 ^ k % 2 ^ 64) (same_count b)

  lsh_keeps64 : n ≡ y.low → Kept64 op.Lsh (lsh_answer (y.low % 64) x)
  lsh_keeps64 b =
      let s = y.low % 64 in
      cond_both (λ a. Kept64 op.Lsh a) (s == 32 && not (raised_fits x)) Raised (By (row.SignedLshBy s))
      (λ e. let is : 32 ≡ s = sym (eqb-true _ _ (and_first _ _ e)) in by_raised (computed op.Lsh w64 m n) (shifted_by 32 is b))
      (λ _. by_row_of (row.SignedLshBy s) (computed op.Lsh w64 m n) (shifted_by s refl b))

  row_in_keeps64 : (operation : Arithmetic) → (p : Precision) → Kept64 operation (row_in p operation (count_of 64 y) x)
  row_in_keeps64 operation Whole = row_keeps64 operation
  row_in_keeps64 op.Lsh Halves = by_count (λ c. Kept64 op.Lsh (row_in Halves op.Lsh c x)) 64 y n k (λ e. lsh_keeps64 e) (by_all op.Lsh)
  row_in_keeps64 op.Arsh Halves =
      by_count (λ c. Kept64 op.Arsh (row_in Halves op.Arsh c x)) 64 y n k
      (λ e. by_row_of (row.SignedArshBy (y.low % 64)) (computed op.Arsh w64 m n) (ap (λ s. cast_unsigned w64 (int_shr (cast_signed w64 m) s)) (same_count e))) (by_row row.Arsh)
  row_in_keeps64 op.Add Halves = row_keeps64 op.Add
  row_in_keeps64 op.Sub Halves = row_keeps64 op.Sub
  row_in_keeps64 op.Mul Halves = row_keeps64 op.Mul
  row_in_keeps64 op.Div Halves = row_keeps64 op.Div
  row_in_keeps64 op.SignedDiv Halves = row_keeps64 op.SignedDiv
  row_in_keeps64 op.Or Halves = row_keeps64 op.Or
  row_in_keeps64 op.And Halves = row_keeps64 op.And
  row_in_keeps64 op.Rsh Halves = row_keeps64 op.Rsh
  row_in_keeps64 op.Mod Halves = row_keeps64 op.Mod
  row_in_keeps64 op.SignedMod Halves = row_keeps64 op.SignedMod
  row_in_keeps64 op.Xor Halves = row_keeps64 op.Xor

  exact64 : (operation : Arithmetic) → m ≡ x.low → n ≡ y.low → Kept64 operation (Exact (alu_value Bits64 operation x.low y.low))
  exact64 operation a b =
      let v = computed operation w64 m n in
      subst (λ (w : ℕ). IsSomeAnd (finished64 precision (Exact w) x y) (λ z. Holds z v)) (ap₂ (λ p q. computed operation w64 p q) a b)
      (tighten_sound precision (constant v) v (constant_holds v (computed_small w64 Is64 m n h.fits k.fits operation)))

  pub answer64_keeps : (operation : Arithmetic) → Kept64 operation (answer64 precision operation x y)
  answer64_keeps operation =
      cond_both (λ a. Kept64 operation a) (is_constant x && is_constant y) (Exact (alu_value Bits64 operation x.low y.low)) (row_in precision operation (count_of 64 y) x)
      (λ e. exact64 operation (only x m (and_first _ _ e) h) (only y n (and_second _ _ e) k))
      (λ _. row_in_keeps64 operation precision)

-- the rows between two cuts
plus32 : (m n : ℕ) → row_value row.Add m n % 2 ^ 32 ≡ computed op.Add w32 m n
plus32 m n = omega arith

minus32 : (m n : ℕ) → m < 2 ^ 32 → n < 2 ^ 32 → row_value row.Sub m n % 2 ^ 32 ≡ computed op.Sub w32 m n
minus32 m n p q = omega arith

times32 : (m n : ℕ) → row_value row.Mul m n % 2 ^ 32 ≡ computed op.Mul w32 m n
times32 m n = omega arith

divided32 : (m n : ℕ) → m < 2 ^ 32 → row_value row.Div m n % 2 ^ 32 ≡ computed op.Div w32 m n
divided32 m n p = let h = div-le_self m n in grind arith

rest32 : (m n : ℕ) → m < 2 ^ 32 → n < 2 ^ 32 → row_value row.Mod m n % 2 ^ 32 ≡ computed op.Mod w32 m n
rest32 m n p q = grind arith

low_of_small : (v : ℕ) → v < 2 ^ 32 → v % 2 ^ 32 ≡ v
low_of_small v p = omega arith

left32 : (m s : ℕ) → m * 2 ^ s % 2 ^ 64 % 2 ^ 32 ≡ m * 2 ^ s % 2 ^ 32
left32 m s = omega arith

right32 : (m s : ℕ) → m < 2 ^ 32 → m / 2 ^ s % 2 ^ 32 ≡ m / 2 ^ s
right32 m s p = omega (arith, shr_le m s)

-- an arithmetic shift of a number whose sign is 0
arsh32 : (m s : ℕ) → m < 2 ^ 31 → cast_unsigned w32 (int_shr (cast_signed w32 m) s) ≡ m / 2 ^ s
arsh32 m s p =
    cond_both (λ z. cast_unsigned w32 (int_shr z s) ≡ m / 2 ^ s) (nat_lt m (2 ^ 31)) _ _ (λ e. refl) (λ e. absurd (grind arith))

module _ (precision : Precision) (x y : Plain) (f : Fits x) (g : Fits y) (m n : ℕ) (h : Holds x m) (k : Holds y n) (p : m < 2 ^ 32) (q : n < 2 ^ 32) where
  abbrev Kept32 : Arithmetic → RowAnswer → Type 0
  Kept32 operation answer = IsSomeAnd (finished32 precision answer x y) (λ z. Holds z (computed operation w32 m n))

  cut_row : (r : Row) (v w : ℕ) → Holds (moved r x y) v → v % 2 ^ 32 ≡ w → IsSomeAnd (finished32 precision (By r) x y) (λ z. Holds z w)
  cut_row r v w i e = subst (λ (u : ℕ). IsSomeAnd (cut precision (moved r x y)) (λ z. Holds z u)) e (cut_keeps precision (moved r x y) v i)

  by_row32 : (r : Row) (w : ℕ) → row_value r m n % 2 ^ 32 ≡ w → IsSomeAnd (finished32 precision (By r) x y) (λ z. Holds z w)
  by_row32 r w e = cut_row r (row_value r m n) w (moved_keeps r x y f g m n h k) e

  small32 : (operation : Arithmetic) → computed operation w32 m n < 2 ^ 32
  small32 operation = computed_small w32 Is32 m n p q operation

  by_all32 : (operation : Arithmetic) → Kept32 operation All
  by_all32 operation =
      let v = computed operation w32 m n in
      let s = small32 operation in
      subst (λ (u : ℕ). IsSomeAnd (cut precision any) (λ z. Holds z u)) (low_of_small v s) (cut_keeps precision any v (any_holds v (omega arith)))

  count32 : n ≡ y.low → (y.low % 32) % 64 ≡ n % 32
  count32 e = omega arith

  small_count : (n % 32) % 64 ≡ n % 32
  small_count = omega arith

  rsh_keeps32 : (w : ℕ) → m / 2 ^ (n % 32) ≡ w → IsSomeAnd (finished32 precision (row_of op.Rsh (count_of 32 y)) x y) (λ z. Holds z w)
  rsh_keeps32 w i =
      by_count (λ c. IsSomeAnd (finished32 precision (row_of op.Rsh c) x y) (λ z. Holds z w)) 32 y n k
      (λ e. by_row32 (row.RshBy (y.low % 32)) w (ap (λ s. m / 2 ^ s % 2 ^ 32) (count32 e) ∙ right32 m (n % 32) p ∙ i))
      (cut_row row.Rsh (m / 2 ^ ((n % 32) % 64)) w (moved_keeps row.Rsh x any f any_fits m (n % 32) h (any_holds (n % 32) (omega arith)))
      (ap (λ s. m / 2 ^ s % 2 ^ 32) small_count ∙ right32 m (n % 32) p ∙ i))

  by_raised32 : (w : ℕ) → row_value (row.LshBy 32) m 0 % 2 ^ 32 ≡ w → IsSomeAnd (finished32 precision Raised x y) (λ z. Holds z w)
  by_raised32 w e = subst (λ (u : ℕ). IsSomeAnd (cut precision (raised x)) (λ z. Holds z u)) e (cut_keeps precision (raised x) (row_value (row.LshBy 32) m 0) (raised_holds x m h))

  shifted_by32 : (s : ℕ) → s ≡ y.low % 32 → n ≡ y.low → m * 2 ^ (s % 64) % 2 ^ 64 % 2 ^ 32 ≡ computed op.Lsh w32 m n
  shifted_by32 s a b = ap (λ k. m * 2 ^ (k % 64) % 2 ^ 64 % 2 ^ 32) a ∙ ap (λ k. m * 2 ^ k % 2 ^ 64 % 2 ^ 32) (count32 b) ∙ left32 m (n % 32)

  lsh_keeps32 : n ≡ y.low → Kept32 op.Lsh (lsh_answer (y.low % 32) x)
  lsh_keeps32 b =
      let s = y.low % 32 in
      cond_both (λ a. Kept32 op.Lsh a) (s == 32 && not (raised_fits x)) Raised (By (row.SignedLshBy s))
      (λ e. let is : 32 ≡ s = sym (eqb-true _ _ (and_first _ _ e)) in by_raised32 (computed op.Lsh w32 m n) (shifted_by32 32 is b))
      (λ _. by_row32 (row.SignedLshBy s) (computed op.Lsh w32 m n) (shifted_by32 s refl b))

  lsh_in_keeps32 : (p : Precision) → Kept32 op.Lsh (row_in p op.Lsh (count_of 32 y) x)
  lsh_in_keeps32 Whole =
      by_count (λ c. Kept32 op.Lsh (row_of op.Lsh c)) 32 y n k
      (λ e. by_row32 (row.LshBy (y.low % 32)) (computed op.Lsh w32 m n) (shifted_by32 (y.low % 32) refl e)) (by_all32 op.Lsh)
  lsh_in_keeps32 Halves = by_count (λ c. Kept32 op.Lsh (row_in Halves op.Lsh c x)) 32 y n k (λ e. lsh_keeps32 e) (by_all32 op.Lsh)

  row_keeps32 : (operation : Arithmetic) (p : Precision) → Kept32 operation (row_of_32 p operation x y)
  row_keeps32 op.Lsh p = lsh_in_keeps32 p
  row_keeps32 op.Arsh p =
      cond_both (λ a. Kept32 op.Arsh a) (nat_lt x.high (2 ^ 31)) (row_of op.Rsh (count_of 32 y)) All
      (λ e. let b = h.below in let l : m < 2 ^ 31 = grind arith in rsh_keeps32 (computed op.Arsh w32 m n) (sym (arsh32 m (n % 32) l)))
      (λ _. by_all32 op.Arsh)
  row_keeps32 op.Add Whole = by_row32 row.Add _ (plus32 m n)
  row_keeps32 op.Add Halves = by_row32 row.Add _ (plus32 m n)
  row_keeps32 op.Sub Whole = by_row32 row.Sub _ (minus32 m n p q)
  row_keeps32 op.Sub Halves = by_row32 row.Sub _ (minus32 m n p q)
  row_keeps32 op.Mul Whole = by_row32 row.Mul _ (times32 m n)
  row_keeps32 op.Mul Halves = by_row32 row.Mul _ (times32 m n)
  row_keeps32 op.Div Whole = by_row32 row.Div _ (divided32 m n p)
  row_keeps32 op.Div Halves = by_row32 row.Div _ (divided32 m n p)
  row_keeps32 op.SignedDiv Whole = by_all32 op.SignedDiv
  row_keeps32 op.SignedDiv Halves = by_all32 op.SignedDiv
  row_keeps32 op.Or Whole = by_row32 row.Or _ (low_of_small _ (or_lt 32 m n p q))
  row_keeps32 op.Or Halves = by_row32 row.Or _ (low_of_small _ (or_lt 32 m n p q))
  row_keeps32 op.And Whole = by_row32 row.And _ (low_of_small _ (omega (arith, and_le_l m n)))
  row_keeps32 op.And Halves = by_row32 row.And _ (low_of_small _ (omega (arith, and_le_l m n)))
  row_keeps32 op.Rsh Whole = rsh_keeps32 (computed op.Rsh w32 m n) refl
  row_keeps32 op.Rsh Halves = rsh_keeps32 (computed op.Rsh w32 m n) refl
  row_keeps32 op.Mod Whole = by_row32 row.Mod _ (rest32 m n p q)
  row_keeps32 op.Mod Halves = by_row32 row.Mod _ (rest32 m n p q)
  row_keeps32 op.SignedMod Whole = by_all32 op.SignedMod
  row_keeps32 op.SignedMod Halves = by_all32 op.SignedMod
  row_keeps32 op.Xor Whole = by_row32 row.Xor _ (low_of_small _ (xor_lt 32 m n p q))
  row_keeps32 op.Xor Halves = by_row32 row.Xor _ (low_of_small _ (xor_lt 32 m n p q))

  exact32 : (operation : Arithmetic) → m ≡ x.low → n ≡ y.low → Kept32 operation (Exact (alu_value Bits32 operation x.low y.low))
  exact32 operation a b =
      let v = computed operation w32 m n in
      let c : m ≡ x.low % 2 ^ 32 = sym (low_of_small m p) ∙ ap (λ u. u % 2 ^ 32) a in
      let d : n ≡ y.low % 2 ^ 32 = sym (low_of_small n q) ∙ ap (λ u. u % 2 ^ 32) b in
      let s = small32 operation in
      subst (λ (w : ℕ). IsSomeAnd (finished32 precision (Exact w) x y) (λ z. Holds z v)) (ap₂ (λ u w. computed operation w32 u w) c d)
      (known_holds precision v (omega arith))

  pub answer32_keeps : (operation : Arithmetic) → Kept32 operation (answer32 precision operation x y)
  answer32_keeps operation =
      cond_both (λ a. Kept32 operation a) (is_constant x && is_constant y) (Exact (alu_value Bits32 operation x.low y.low)) (row_of_32 precision operation x y)
      (λ e. exact32 operation (only x m (and_first _ _ e) h) (only y n (and_second _ _ e) k))
      (λ _. row_keeps32 operation precision)

-- the cut of a number fits
cut_high : (a b : ℕ) → (unsigned_row row.Cut a b a b).1 < 2 ^ 64
cut_high a b = grind arith

cut_fits : (precision : Precision) (x : Plain) → AllFit (cut precision x)
cut_fits precision x = tighten_fits precision (moved row.Cut x x) (record { high = cut_high x.low x.high; unknown = omega arith })

-- what holds of a number that is left holds of what is made of it
after : (o : Option Plain) (k : Plain → Option Plain) (v w : ℕ) → IsSomeAnd o (λ z. Holds z v) → AllFit o
    → ((a : Plain) → Holds a v → Fits a → IsSomeAnd (k a) (λ z. Holds z w)) → IsSomeAnd (option_and_then k o) (λ z. Holds z w)
after None k v w h f g = h
after (Some a) k v w h f g = g a h f

pub transferred_keeps : (precision : Precision) (bits : OpWidth) (operation : Arithmetic) (x y : Plain) → Fits x → Fits y → (m n : ℕ) → Holds x m → Holds y n
    → IsSomeAnd (transferred precision bits operation x y) (λ z. Holds z (alu_value bits operation m n))
transferred_keeps precision Bits64 operation x y f g m n h k = answer64_keeps precision x y f g m n h k operation
transferred_keeps precision Bits32 operation x y f g m n h k =
    after (cut precision x) (λ a. option_and_then (λ b. finished32 precision (answer32 precision operation a b) a b) (cut precision y)) (m % 2 ^ 32) _ (cut_keeps precision x m h) (cut_fits precision x)
    (λ a i p. after (cut precision y) (λ b. finished32 precision (answer32 precision operation a b) a b) (n % 2 ^ 32) _ (cut_keeps precision y n k) (cut_fits precision y)
    (λ b j q. answer32_keeps precision a b p q (m % 2 ^ 32) (n % 2 ^ 32) i j (omega arith) (omega arith) operation))

known_of_same : (precision : Precision) (v w : ℕ) → v ≡ w → w < 2 ^ 64 → Holds (known precision v) w
known_of_same precision v w e p = subst (λ (u : ℕ). Holds (known precision u) w) (sym e) (known_holds precision w p)

-- the shift up of a sign extension, which fits
abbrev shifted_up : ℕ → Plain → Plain
shifted_up s x = answered (lsh_answer s x) x any

shifted_up_holds : (s : ℕ) (x : Plain) (n : ℕ) → Holds x n → Holds (shifted_up s x) (row_value (row.LshBy s) n 0)
shifted_up_holds s x n h =
    cond_both (λ a. Holds (answered a x any) (row_value (row.LshBy s) n 0)) (s == 32 && not (raised_fits x)) Raised (By (row.SignedLshBy s))
    (λ e. let is : 32 ≡ s = sym (eqb-true _ _ (and_first _ _ e)) in subst (λ (k : ℕ). Holds (raised x) (row_value (row.LshBy k) n 0)) is (raised_holds x n h))
    (λ _. let u = lsh_between s x.low x.high n h.above h.below in
    let t = signed_lsh_between s x.least x.greatest n h.fits h.at_least h.at_most in
    let b = lsh_agrees s x.value x.unknown n h.agrees in
    let e = half_all_keeps (row_value (row.LshBy s) n 0) in
    record { fits = row_value_fits (row.LshBy s) n 0 h.fits (omega arith); above = u.0; below = u.1; at_least = t.0; at_most = t.1; agrees = b; half_at_least = e.0; half_at_most = e.1 })

lsh_high : (s a b : ℕ) → (unsigned_row (row.SignedLshBy s) a b 0 0).1 < 2 ^ 64
lsh_high s a b = grind arith

shifted_up_fits : (s : ℕ) (x : Plain) → Fits (shifted_up s x)
shifted_up_fits s x =
    cond_both (λ a. Fits (answered a x any)) (s == 32 && not (raised_fits x)) Raised (By (row.SignedLshBy s))
    (λ _. record { high = lsh_high 32 x.low x.high; unknown = omega arith })
    (λ _. record { high = lsh_high s x.low x.high; unknown = omega arith })

-- what sign extension to 64 bits computes, by the shift up and the shift down
abbrev extended_value : SignedMove → ℕ → ℕ
extended_value extension n = row_value (row.SignedArshBy (bits_above extension)) (row_value (row.LshBy (bits_above extension)) n 0) 0

abbrev IsExtended : SignedMove → ℕ → ℕ → Type 0
IsExtended extension n v = (extended_value extension n ≡ v) × (v < 2 ^ 64)

extends : (precision : Precision) (extension : SignedMove) (x : Plain) (n v : ℕ) → IsExtended extension n v → Holds x n → IsSomeAnd (extended_from precision extension x) (λ z. Holds z v)
extends Whole extension x n v e h = tighten_sound Whole any v (any_holds v e.1)
extends Halves extension x n v e h =
    let s = bits_above extension in
    subst (λ (w : ℕ). IsSomeAnd (extended_from Halves extension x) (λ z. Holds z w)) e.0
    (after (tighten Halves (shifted_up s x)) (λ y. tighten Halves (moved (row.SignedArshBy s) y any)) (row_value (row.LshBy s) n 0) _
    (tighten_sound Halves (shifted_up s x) _ (shifted_up_holds s x n h)) (tighten_fits Halves (shifted_up s x) (shifted_up_fits s x))
    (λ y i p. tighten_sound Halves (moved (row.SignedArshBy s) y any) _ (moved_keeps (row.SignedArshBy s) y any p any_fits _ 0 i (any_holds 0 (omega arith)))))

-- the shift up puts the sign on top, and the shift down fills with it
down_from : (s t v : ℕ) (z : ℤ) → 0 < t → signed v ≡ z *ℤ pos t → t ≡ 2 ^ (s % 64) → row_value (row.SignedArshBy s) v 0 ≡ cast_unsigned w64 z
down_from s t v z p e f = ap (λ (u : ℤ). cast_unsigned w64 (int_shr u (s % 64))) e ∙ ap (λ (k : ℕ). cast_unsigned w64 (shr_z (z *ℤ pos t) k)) (sym f) ∙ ap (λ (u : ℤ). cast_unsigned w64 u) (shr_of_product z t p)

byte_extended : (n : ℕ) → extended_value Byte64 n ≡ cast_unsigned w64 (cast_signed w8 (n % 2 ^ 8))
byte_extended n = down_from 56 (2 ^ 56) (n * 2 ^ 56 % 2 ^ 64) (cast_signed w8 (n % 2 ^ 8)) (omega arith) (byte_raised n) refl

half_extended : (n : ℕ) → extended_value Half64 n ≡ cast_unsigned w64 (cast_signed w16 (n % 2 ^ 16))
half_extended n = down_from 48 (2 ^ 48) (n * 2 ^ 48 % 2 ^ 64) (cast_signed w16 (n % 2 ^ 16)) (omega arith) (half_raised n) refl

word_extended : (n : ℕ) → extended_value Word64 n ≡ cast_unsigned w64 (cast_signed w32 (n % 2 ^ 32))
word_extended n = down_from 32 (2 ^ 32) (n * 2 ^ 32 % 2 ^ 64) (cast_signed w32 (n % 2 ^ 32)) (omega arith) (raised_is n) refl

extends64 : (precision : Precision) (extension : SignedMove) (x : Plain) (n : ℕ) → extended_value extension n ≡ signed_move_value extension n → Holds x n → IsSomeAnd (extended_of precision extension Bits64 x) (λ z. Holds z (signed_move_value extension n))
extends64 precision extension x n s h =
    let v = signed_move_value extension n in
    cond_both (λ o. IsSomeAnd o (λ z. Holds z v)) (is_constant x) (Some (known precision (signed_move_value extension x.low))) (extended_from precision extension x)
    (λ e. known_of_same precision _ v (ap (λ u. signed_move_value extension u) (sym (only x n e h))) (signed_move_small extension n))
    (λ _. extends precision extension x n v (s, signed_move_small extension n) h)

-- an extension to 32 bits is of the low half, and stays there: it is the cut of one to 64 bits
abbrev IsShort : SignedMove → Type 0
IsShort extension = (n : ℕ) → (signed_move_value extension (n % 2 ^ 32) ≡ signed_move_value extension n) × (signed_move_value extension n < 2 ^ 32) × (extended_value extension n % 2 ^ 32 ≡ signed_move_value extension n)

extends32 : (precision : Precision) (extension : SignedMove) → IsShort extension → (x : Plain) (n : ℕ) → Holds x n → IsSomeAnd (extended_of precision extension Bits32 x) (λ z. Holds z (signed_move_value extension n))
extends32 precision extension short x n h =
    let v = signed_move_value extension n in
    let s = short n in
    let l = short (n % 2 ^ 32) in
    after (cut precision x) (λ a. cond (is_constant a) (Some (known precision (signed_move_value extension a.low))) (option_and_then (cut precision) (extended_from precision extension a))) (n % 2 ^ 32) v (cut_keeps precision x n h) (cut_fits precision x)
    (λ a i _. cond_both (λ o. IsSomeAnd o (λ z. Holds z v)) (is_constant a) (Some (known precision (signed_move_value extension a.low))) (option_and_then (cut precision) (extended_from precision extension a))
    (λ e. known_of_same precision _ v (ap (λ u. signed_move_value extension u) (sym (only a (n % 2 ^ 32) e i)) ∙ s.0) (omega arith))
    (λ _. let w = extended_value extension (n % 2 ^ 32) in
    then_sound (extended_from precision extension a) (cut precision) w v
    (extends precision extension a (n % 2 ^ 32) w (refl, row_value_fits (row.SignedArshBy (bits_above extension)) _ 0 (row_value_fits (row.LshBy (bits_above extension)) (n % 2 ^ 32) 0 (omega arith) (omega arith)) (omega arith)) i)
    (λ b j. subst (λ (u : ℕ). IsSomeAnd (cut precision b) (λ z. Holds z u)) (l.2 ∙ s.0) (cut_keeps precision b w j))))

low_byte : (n : ℕ) → n % 2 ^ 32 % 2 ^ 8 ≡ n % 2 ^ 8
low_byte n = omega arith

low_half : (n : ℕ) → n % 2 ^ 32 % 2 ^ 16 ≡ n % 2 ^ 16
low_half n = omega arith

-- a narrow number with its sign, in 64 bits and then in 32
narrowed : (z : ℤ) → mag z < 2 ^ 31 → cast_unsigned w64 z % 2 ^ 32 ≡ cast_unsigned w32 z
narrowed (pos n) h = omega arith
narrowed (negsuc n) h = omega arith

byte_short : IsShort Byte32
byte_short n = (ap (λ u. cast_unsigned w32 (cast_signed w8 u)) (low_byte n), signed_move_short8 n, ap (λ u. u % 2 ^ 32) (byte_extended n) ∙ narrowed (cast_signed w8 (n % 2 ^ 8)) (byte_mag (n % 2 ^ 8) (omega arith)))

half_short : IsShort Half32
half_short n = (ap (λ u. cast_unsigned w32 (cast_signed w16 u)) (low_half n), signed_move_short16 n, ap (λ u. u % 2 ^ 32) (half_extended n) ∙ narrowed (cast_signed w16 (n % 2 ^ 16)) (half_mag (n % 2 ^ 16) (omega arith)))

pub sign_extended_keeps : (precision : Precision) (extension : SignedMove) (x : Plain) (n : ℕ) → Holds x n → IsSomeAnd (sign_extended precision extension x) (λ z. Holds z (signed_move_value extension n))
sign_extended_keeps precision Byte64 x n h = extends64 precision Byte64 x n (byte_extended n) h
sign_extended_keeps precision Half64 x n h = extends64 precision Half64 x n (half_extended n) h
sign_extended_keeps precision Word64 x n h = extends64 precision Word64 x n (word_extended n) h
sign_extended_keeps precision Byte32 x n h = extends32 precision Byte32 byte_short x n h
sign_extended_keeps precision Half32 x n h = extends32 precision Half32 half_short x n h

pub ordered_keeps : (precision : Precision) (order : ByteOrder) (width : EndWidth) (x : Plain) (n : ℕ) → Holds x n → IsSomeAnd (ordered precision order width x) (λ z. Holds z (end_value order width n))
ordered_keeps precision order width x n h =
    let v = end_value order width n in
    cond_both (λ o. IsSomeAnd o (λ z. Holds z v)) (is_constant x) (Some (known precision (end_value order width x.low))) (tighten precision any)
    (λ e. known_of_same precision _ v (ap (λ u. end_value order width u) (sym (only x n e h))) (end_value_small order width n))
    (λ _. tighten_sound precision any v (any_holds v (end_value_small order width n)))

pub negative_is : (bits : OpWidth) (n : ℕ) → alu_value bits op.Sub 0 n ≡ neg_value bits n
negative_is Bits64 n = omega arith
negative_is Bits32 n = omega arith

pub copied_keeps : (precision : Precision) (bits : OpWidth) (x : Plain) (n : ℕ) → Holds x n → IsSomeAnd (copied precision bits x) (λ z. Holds z (mov_value bits n))
copied_keeps precision Bits64 x n h = h
copied_keeps precision Bits32 x n h = cut_keeps precision x n h
