-- Proved; nothing here need be believed.
-- The signed part keeps every number.
use Rattle.std.specs.Prelude.{ℕ, ℤ, pos, negsuc, ◌+ℤ◌, ◌-ℤ◌, ◌*ℤ◌, ◌≤ℤ◌, FitsSigned, ◌+◌, ◌-◌, ◌*◌, ◌%◌, ◌^◌, ◌≡◌, ◌<◌}
use Rattle.std.specs.Prelude.{◌&&◌, true, false}
use Rattle.std.proofs.Common.{◌∙◌, arith}
use Rattle.std.proofs.lemmas.Int.{ints, wrapping_add-bits, wrapping_sub-bits, int_wrap_fits, to_z-of_z}
use Rattle.std.proofs.lemmas.Nat.{pow_pos}
use Rattle.std.specs.Int.{w64, int_shr}
use Rattle.abstract_num.specs.proved.Cases.{cond_both, and_first, and_second, bool_no}
use Rattle.abstract_num.specs.proved.Scaled.{times_mono, shr_mono, shifted_fits, signed_times, raised_is}
use Rattle.abstract_num.specs.UnsignedRows.{power}
use Rattle.abstract_num.specs.Meaning.{row_value}
use Rattle.abstract_num.specs.proved.RowsFit.{row_value_fits}
use Rattle.abstract_num.specs.Parts.{InSRange}
use Rattle.abstract_num.specs.Signed.{signed, signed_half}
use Rattle.abstract_num.specs.SignedRows.{ends, all, fits, ends_that_fit, signed_row}
use Rattle.abstract_num.specs.declared.row.Row.{Row}
use Rattle.abstract_num.specs.declared.row.Row.TheVariants.{Add, Sub, Mul, Div, Mod, And, Or, Xor, LshBy, RshBy, Rsh}
use Rattle.abstract_num.specs.declared.row.Row.TheVariants.{ArshBy, Arsh, SignedLshBy, SignedArshBy, Cut}
use Rattle.abstract_num.specs.declared.srange.SRange.{SRange}

-- n is between two ends as a signed number
abbrev pub SignedBetween : ℤ × ℤ → ℕ → Type 0
SignedBetween e n = (e.0 ≤ℤ signed n) × (signed n ≤ℤ e.1)

pub signed_all_keeps : (n : ℕ) → n < 2 ^ 64 → SignedBetween all n
signed_all_keeps n h = (omega (arith, ints), omega (arith, ints))

fits_low : (z : ℤ) → fits z ≡ true → negsuc (2 ^ 63 - 1) ≤ℤ z
fits_low z e = grind (arith, ints)

fits_high : (z : ℤ) → fits z ≡ true → z ≤ℤ pos (2 ^ 63 - 1)
fits_high z e = grind (arith, ints)

ends_keep : (p q : ℤ) (n : ℕ) → n < 2 ^ 64
    → (negsuc (2 ^ 63 - 1) ≤ℤ p → q ≤ℤ pos (2 ^ 63 - 1) → (p ≤ℤ signed n) × (signed n ≤ℤ q)) →
    SignedBetween (ends_that_fit p q) n
ends_keep p q n h f =
    cond_both (λ r. SignedBetween r n) (fits p && fits q) (ends p q) all
    (λ e. f (fits_low p (and_first _ _ e)) (fits_high q (and_second _ _ e)))
    (λ e. signed_all_keeps n h)

fits_between : (z : ℤ) → negsuc (2 ^ 63 - 1) ≤ℤ z → z ≤ℤ pos (2 ^ 63 - 1) → FitsSigned w64 z
fits_between (pos n) l h = record { sfits = omega (arith, ints) }
fits_between (negsuc n) l h = record { sfits = omega (arith, ints) }

fits_yes : (z : ℤ) → FitsSigned w64 z → fits z ≡ true
fits_yes (pos n) h = grind (arith, ints)
fits_yes (negsuc n) h = grind (arith, ints)

fits_no : (z : ℤ) → (FitsSigned w64 z → ⊥) → fits z ≡ false
fits_no z h = bool_no (fits z) (λ e. h (fits_between z (fits_low z e) (fits_high z e)))

-- the ends if both fit, and every number if one doesn't
pub ends_fit : (p q : ℤ) → FitsSigned w64 p → FitsSigned w64 q → ends_that_fit p q ≡ ends p q
ends_fit p q f g = rw (fits_yes p f, fits_yes q g)

pub low_end_too_far : (p q : ℤ) → (FitsSigned w64 p → ⊥) → ends_that_fit p q ≡ all
low_end_too_far p q f = rw (fits_no p f)

pub high_end_too_far : (p q : ℤ) → FitsSigned w64 p → (FitsSigned w64 q → ⊥) → ends_that_fit p q ≡ all
high_end_too_far p q f g = rw (fits_yes p f, fits_no q g)

signed_add : (m n : ℕ) → m < 2 ^ 64 → n < 2 ^ 64 → FitsSigned w64 (signed m +ℤ signed n) →
    signed ((m + n) % 2 ^ 64) ≡ signed m +ℤ signed n
signed_add m n p q f = wrapping_add-bits w64 m n p q ∙ int_wrap_fits w64 (signed m +ℤ signed n) f

signed_sub : (m n : ℕ) → m < 2 ^ 64 → n < 2 ^ 64 → FitsSigned w64 (signed m -ℤ signed n) →
    signed ((m + (2 ^ 64 - n)) % 2 ^ 64) ≡ signed m -ℤ signed n
signed_sub m n p q f = wrapping_sub-bits w64 m n p q ∙ int_wrap_fits w64 (signed m -ℤ signed n) f

between_add : (a b x y : ℤ) → a ≤ℤ x → b ≤ℤ y → (a +ℤ b) ≤ℤ (x +ℤ y)
between_add a b x y p q = omega (arith, ints)

between_sub : (a b x y : ℤ) → a ≤ℤ x → y ≤ℤ b → (a -ℤ b) ≤ℤ (x -ℤ y)
between_sub a b x y p q = omega (arith, ints)

le_through : (a b c : ℤ) → a ≤ℤ b → b ≤ℤ c → a ≤ℤ c
le_through a b c p q = omega (arith, ints)

-- times 2 to the count
pub lsh_between : (k : ℕ) (p q : ℤ) (m : ℕ) → m < 2 ^ 64 → p ≤ℤ signed m → signed m ≤ℤ q →
    SignedBetween (ends_that_fit (p *ℤ pos (power k)) (q *ℤ pos (power k))) (m * 2 ^ (k % 64) % 2 ^ 64)
lsh_between k p q m f a b =
    let t = power k in
    let low : (p *ℤ pos t) ≤ℤ (signed m *ℤ pos t) = times_mono t p (signed m) a in
    let high : (signed m *ℤ pos t) ≤ℤ (q *ℤ pos t) = times_mono t (signed m) q b in
    ends_keep (p *ℤ pos t) (q *ℤ pos t) (m * t % 2 ^ 64) (omega arith)
    (λ l h. let e = signed_times m t (pow_pos (k % 64)) f
    (fits_between (signed m *ℤ pos t) (le_through _ _ _ l low) (le_through _ _ _ high h)) in
    (rw e low, rw e high))

-- what a row gives of numbers between the ends
abbrev Keeps : Row → Type 0
Keeps k = (p q r s : ℤ) (m n : ℕ) → m < 2 ^ 64 → n < 2 ^ 64 → p ≤ℤ signed m → signed m ≤ℤ q → r ≤ℤ signed n →
    signed n ≤ℤ s
    → SignedBetween (signed_row k p q r s) (row_value k m n)

add_keeps : Keeps Add
add_keeps p q r s m n f g a b c d =
    let low : (p +ℤ r) ≤ℤ (signed m +ℤ signed n) = between_add _ _ _ _ a c in
    let high : (signed m +ℤ signed n) ≤ℤ (q +ℤ s) = between_add _ _ _ _ b d in
    ends_keep (p +ℤ r) (q +ℤ s) ((m + n) % 2 ^ 64) (omega arith)
    (λ l h. let e = signed_add m n f g (fits_between (signed m +ℤ signed n) (le_through _ _ _ l low)
    (le_through _ _ _ high h)) in
    (rw e low, rw e high))

sub_keeps : Keeps Sub
sub_keeps p q r s m n f g a b c d =
    let low : (p -ℤ s) ≤ℤ (signed m -ℤ signed n) = between_sub _ _ _ _ a d in
    let high : (signed m -ℤ signed n) ≤ℤ (q -ℤ r) = between_sub _ _ _ _ b c in
    ends_keep (p -ℤ s) (q -ℤ r) ((m + (2 ^ 64 - n)) % 2 ^ 64) (omega arith)
    (λ l h. let e = signed_sub m n f g (fits_between (signed m -ℤ signed n) (le_through _ _ _ l low)
    (le_through _ _ _ high h)) in
    (rw e low, rw e high))

other_keeps : (k : Row) (m n : ℕ) → m < 2 ^ 64 → n < 2 ^ 64 → SignedBetween all (row_value k m n)
other_keeps k m n f g = signed_all_keeps (row_value k m n) (row_value_fits k m n f g)

lsh_keeps : (k : ℕ) → Keeps (SignedLshBy k)
lsh_keeps k p q r s m n f g a b c d = lsh_between k p q m f a b

-- divided by 2 to the count, rounded down
arsh_keeps : (k : ℕ) → Keeps (SignedArshBy k)
arsh_keeps k p q r s m n f g a b c d =
    let e : signed (row_value (SignedArshBy k) m n) ≡ int_shr (signed m) (k % 64) =
    to_z-of_z w64 (int_shr (signed m) (k % 64)) (shifted_fits (k % 64) m f) in (
      rw e (shr_mono (2 ^ (k % 64)) p (signed m) (pow_pos (k % 64)) a),
      rw e (shr_mono (2 ^ (k % 64)) (signed m) q (pow_pos (k % 64)) b),
    )

-- times 2 ^ 32, if the low half lies between the ends
pub raised_between : (h k : ℤ) (m : ℕ) → h ≤ℤ signed_half m → signed_half m ≤ℤ k →
    SignedBetween (h *ℤ pos (2 ^ 32), k *ℤ pos (2 ^ 32)) (m * 2 ^ 32 % 2 ^ 64)
raised_between h k m a b =
    let e = raised_is m in
    (rw e (times_mono (2 ^ 32) h (signed_half m) a), rw e (times_mono (2 ^ 32) (signed_half m) k b))

pub signed_row_keeps : (k : Row) → Keeps k
signed_row_keeps Add p q r s m n f g a b c d = add_keeps p q r s m n f g a b c d
signed_row_keeps Sub p q r s m n f g a b c d = sub_keeps p q r s m n f g a b c d
signed_row_keeps Mul p q r s m n f g a b c d = other_keeps Mul m n f g
signed_row_keeps Div p q r s m n f g a b c d = other_keeps Div m n f g
signed_row_keeps Mod p q r s m n f g a b c d = other_keeps Mod m n f g
signed_row_keeps And p q r s m n f g a b c d = other_keeps And m n f g
signed_row_keeps Or p q r s m n f g a b c d = other_keeps Or m n f g
signed_row_keeps Xor p q r s m n f g a b c d = other_keeps Xor m n f g
signed_row_keeps (LshBy k) p q r s m n f g a b c d = other_keeps (LshBy k) m n f g
signed_row_keeps (RshBy k) p q r s m n f g a b c d = other_keeps (RshBy k) m n f g
signed_row_keeps Rsh p q r s m n f g a b c d = other_keeps Rsh m n f g
signed_row_keeps (ArshBy k) p q r s m n f g a b c d = other_keeps (ArshBy k) m n f g
signed_row_keeps Arsh p q r s m n f g a b c d = other_keeps Arsh m n f g
signed_row_keeps (SignedLshBy k) p q r s m n f g a b c d = lsh_keeps k p q r s m n f g a b c d
signed_row_keeps (SignedArshBy k) p q r s m n f g a b c d = arsh_keeps k p q r s m n f g a b c d
signed_row_keeps Cut p q r s m n f g a b c d = other_keeps Cut m n f g

-- the range from the one end to the other
abbrev pub IsReach : SRange → ℤ × ℤ → Type 0
IsReach z e = (z.low ≡ e.0) × (z.high ≡ e.1)

abbrev pub SRangeMoves : Row → SRange → SRange → SRange → Type 0
SRangeMoves r x y z = IsReach z (signed_row r x.low x.high y.low y.high)

pub srange_moves_sound : (r : Row) (x y z : SRange) → SRangeMoves r x y z → (m n : ℕ) → InSRange x m → InSRange y n →
    InSRange z (row_value r m n)
srange_moves_sound r x y z e m n p q =
    let h = signed_row_keeps r x.low x.high y.low y.high m n p.2 q.2 p.0 p.1 q.0 q.1 in
    (rw e.0 h.0, rw e.1 h.1, row_value_fits r m n p.2 q.2)
