-- Proved; nothing here need be believed.
-- The half keeps every number.
use Rattle.std.specs.Prelude.{ℕ, ℤ, pos, negsuc, ◌+ℤ◌, ◌-ℤ◌, ◌≤ℤ◌, FitsSigned, ◌+◌, ◌-◌, ◌%◌, ◌^◌, ◌≡◌, ◌<◌, ◌&&◌, true}
use Rattle.std.specs.Prelude.{false}
use Rattle.std.proofs.Common.{ap, ◌∙◌, arith}
use Rattle.std.proofs.lemmas.Int.{ints, wrapping_add-bits, wrapping_sub-bits, int_wrap_fits}
use Rattle.std.specs.Int.{w32, cast_signed}
use Rattle.abstract_num.specs.proved.Cases.{cond_both, and_first, and_second, bool_no}
use Rattle.abstract_num.specs.Meaning.{row_value}
use Rattle.abstract_num.specs.proved.RowsFit.{row_value_fits}
use Rattle.abstract_num.specs.Parts.{InHalf}
use Rattle.abstract_num.specs.Signed.{signed_half}
use Rattle.abstract_num.specs.HalfRows.{ends, all, fits, ends_that_fit, half_row}
use Rattle.abstract_num.specs.declared.row.Row.{Row}
use Rattle.abstract_num.specs.declared.row.Row.TheVariants.{Add, Sub, Mul, Div, Mod, And, Or, Xor, LshBy, RshBy, Rsh}
use Rattle.abstract_num.specs.declared.row.Row.TheVariants.{ArshBy, Arsh, SignedLshBy, SignedArshBy, Cut}
use Rattle.abstract_num.specs.declared.half.Half.{Half}

-- the low half of n is between two ends as a signed number
abbrev pub HalfBetween : ℤ × ℤ → ℕ → Type 0
HalfBetween e n = (e.0 ≤ℤ signed_half n) × (signed_half n ≤ℤ e.1)

pub half_all_keeps : (n : ℕ) → HalfBetween all n
half_all_keeps n = (omega (arith, ints), omega (arith, ints))

fits_low : (z : ℤ) → fits z ≡ true → negsuc (2 ^ 31 - 1) ≤ℤ z
fits_low z e = grind (arith, ints)

fits_high : (z : ℤ) → fits z ≡ true → z ≤ℤ pos (2 ^ 31 - 1)
fits_high z e = grind (arith, ints)

ends_keep : (p q : ℤ) (n : ℕ)
    → (negsuc (2 ^ 31 - 1) ≤ℤ p → q ≤ℤ pos (2 ^ 31 - 1) → (p ≤ℤ signed_half n) × (signed_half n ≤ℤ q)) →
    HalfBetween (ends_that_fit p q) n
ends_keep p q n f =
    cond_both (λ r. HalfBetween r n) (fits p && fits q) (ends p q) all
    (λ e. f (fits_low p (and_first _ _ e)) (fits_high q (and_second _ _ e)))
    (λ e. half_all_keeps n)

fits_between : (z : ℤ) → negsuc (2 ^ 31 - 1) ≤ℤ z → z ≤ℤ pos (2 ^ 31 - 1) → FitsSigned w32 z
fits_between (pos n) l h = record { sfits = omega (arith, ints) }
fits_between (negsuc n) l h = record { sfits = omega (arith, ints) }

fits_yes : (z : ℤ) → FitsSigned w32 z → fits z ≡ true
fits_yes (pos n) h = grind (arith, ints)
fits_yes (negsuc n) h = grind (arith, ints)

fits_no : (z : ℤ) → (FitsSigned w32 z → ⊥) → fits z ≡ false
fits_no z h = bool_no (fits z) (λ e. h (fits_between z (fits_low z e) (fits_high z e)))

-- the ends if both fit, and every number if one doesn't
pub ends_fit : (p q : ℤ) → FitsSigned w32 p → FitsSigned w32 q → ends_that_fit p q ≡ ends p q
ends_fit p q f g = rw (fits_yes p f, fits_yes q g)

pub low_end_too_far : (p q : ℤ) → (FitsSigned w32 p → ⊥) → ends_that_fit p q ≡ all
low_end_too_far p q f = rw (fits_no p f)

pub high_end_too_far : (p q : ℤ) → FitsSigned w32 p → (FitsSigned w32 q → ⊥) → ends_that_fit p q ≡ all
high_end_too_far p q f g = rw (fits_yes p f, fits_no q g)

low_sum : (m n : ℕ) → (m + n) % 2 ^ 64 % 2 ^ 32 ≡ (m % 2 ^ 32 + n % 2 ^ 32) % 2 ^ 32
low_sum m n = omega arith

low_difference : (m n : ℕ) → n < 2 ^ 64 →
    (m + (2 ^ 64 - n)) % 2 ^ 64 % 2 ^ 32 ≡ (m % 2 ^ 32 + (2 ^ 32 - n % 2 ^ 32)) % 2 ^ 32
low_difference m n h = omega arith

signed_add : (m n : ℕ) → FitsSigned w32 (signed_half m +ℤ signed_half n) →
    signed_half ((m + n) % 2 ^ 64) ≡ signed_half m +ℤ signed_half n
signed_add m n f =
    ap (λ k. cast_signed w32 k) (low_sum m n) ∙ wrapping_add-bits w32 (m % 2 ^ 32) (n % 2 ^ 32) (omega arith)
    (omega arith) ∙ int_wrap_fits w32 (signed_half m +ℤ signed_half n) f

signed_sub : (m n : ℕ) → n < 2 ^ 64 → FitsSigned w32 (signed_half m -ℤ signed_half n) →
    signed_half ((m + (2 ^ 64 - n)) % 2 ^ 64) ≡ signed_half m -ℤ signed_half n
signed_sub m n h f =
    ap (λ k. cast_signed w32 k) (low_difference m n h) ∙ wrapping_sub-bits w32 (m % 2 ^ 32) (n % 2 ^ 32) (omega arith)
    (omega arith) ∙ int_wrap_fits w32 (signed_half m -ℤ signed_half n) f

between_add : (a b x y : ℤ) → a ≤ℤ x → b ≤ℤ y → (a +ℤ b) ≤ℤ (x +ℤ y)
between_add a b x y p q = omega (arith, ints)

between_sub : (a b x y : ℤ) → a ≤ℤ x → y ≤ℤ b → (a -ℤ b) ≤ℤ (x -ℤ y)
between_sub a b x y p q = omega (arith, ints)

le_through : (a b c : ℤ) → a ≤ℤ b → b ≤ℤ c → a ≤ℤ c
le_through a b c p q = omega (arith, ints)

-- what a row gives of numbers whose halves are between the ends
abbrev Keeps : Row → Type 0
Keeps r = (h k i j : ℤ) (m n : ℕ) → n < 2 ^ 64 → h ≤ℤ signed_half m → signed_half m ≤ℤ k → i ≤ℤ signed_half n →
    signed_half n ≤ℤ j
    → HalfBetween (half_row r h k i j) (row_value r m n)

add_keeps : Keeps Add
add_keeps h k i j m n g a b c d =
    let low : (h +ℤ i) ≤ℤ (signed_half m +ℤ signed_half n) = between_add _ _ _ _ a c in
    let high : (signed_half m +ℤ signed_half n) ≤ℤ (k +ℤ j) = between_add _ _ _ _ b d in
    ends_keep (h +ℤ i) (k +ℤ j) ((m + n) % 2 ^ 64)
    (λ l u. let e = signed_add m n (fits_between (signed_half m +ℤ signed_half n) (le_through _ _ _ l low)
    (le_through _ _ _ high u)) in
    (rw e low, rw e high))

sub_keeps : Keeps Sub
sub_keeps h k i j m n g a b c d =
    let low : (h -ℤ j) ≤ℤ (signed_half m -ℤ signed_half n) = between_sub _ _ _ _ a d in
    let high : (signed_half m -ℤ signed_half n) ≤ℤ (k -ℤ i) = between_sub _ _ _ _ b c in
    ends_keep (h -ℤ j) (k -ℤ i) ((m + (2 ^ 64 - n)) % 2 ^ 64)
    (λ l u. let e = signed_sub m n g (fits_between (signed_half m -ℤ signed_half n) (le_through _ _ _ l low)
    (le_through _ _ _ high u)) in
    (rw e low, rw e high))

-- the low half of the low 32 bits
pub half_of_cut : (n : ℕ) → signed_half (n % 2 ^ 32) ≡ signed_half n
half_of_cut n = let e : n % 2 ^ 32 % 2 ^ 32 ≡ n % 2 ^ 32 = omega arith in ap (λ k. cast_signed w32 k) e

cut_keeps : Keeps Cut
cut_keeps h k i j m n g a b c d = let e = half_of_cut m in (rw e a, rw e b)

pub half_row_keeps : (r : Row) → Keeps r
half_row_keeps Add h k i j m n g a b c d = add_keeps h k i j m n g a b c d
half_row_keeps Sub h k i j m n g a b c d = sub_keeps h k i j m n g a b c d
half_row_keeps Cut h k i j m n g a b c d = cut_keeps h k i j m n g a b c d
half_row_keeps Mul h k i j m n g a b c d = half_all_keeps (row_value Mul m n)
half_row_keeps Div h k i j m n g a b c d = half_all_keeps (row_value Div m n)
half_row_keeps Mod h k i j m n g a b c d = half_all_keeps (row_value Mod m n)
half_row_keeps And h k i j m n g a b c d = half_all_keeps (row_value And m n)
half_row_keeps Or h k i j m n g a b c d = half_all_keeps (row_value Or m n)
half_row_keeps Xor h k i j m n g a b c d = half_all_keeps (row_value Xor m n)
half_row_keeps (LshBy s) h k i j m n g a b c d = half_all_keeps (row_value (LshBy s) m n)
half_row_keeps (RshBy s) h k i j m n g a b c d = half_all_keeps (row_value (RshBy s) m n)
half_row_keeps Rsh h k i j m n g a b c d = half_all_keeps (row_value Rsh m n)
half_row_keeps (ArshBy s) h k i j m n g a b c d = half_all_keeps (row_value (ArshBy s) m n)
half_row_keeps Arsh h k i j m n g a b c d = half_all_keeps (row_value Arsh m n)
half_row_keeps (SignedLshBy s) h k i j m n g a b c d = half_all_keeps (row_value (SignedLshBy s) m n)
half_row_keeps (SignedArshBy s) h k i j m n g a b c d = half_all_keeps (row_value (SignedArshBy s) m n)

-- the range from the one end to the other
abbrev pub IsHalf : Half → ℤ × ℤ → Type 0
IsHalf z e = (z.low ≡ e.0) × (z.high ≡ e.1)

abbrev pub HalfMoves : Row → Half → Half → Half → Type 0
HalfMoves r x y z = IsHalf z (half_row r x.low x.high y.low y.high)

pub half_moves_sound : (r : Row) (x y z : Half) → HalfMoves r x y z → (m n : ℕ) → InHalf x m → InHalf y n →
    InHalf z (row_value r m n)
half_moves_sound r x y z e m n p q =
    let h = half_row_keeps r x.low x.high y.low y.high m n q.2 p.0 p.1 q.0 q.1 in
    (rw e.0 h.0, rw e.1 h.1, row_value_fits r m n p.2 q.2)
