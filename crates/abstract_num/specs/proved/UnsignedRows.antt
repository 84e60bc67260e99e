-- Proved; nothing here need be believed.
-- The unsigned part keeps every number.
use Rattle.std.specs.Prelude.{ℕ, ◌*◌, ◌/◌, ◌%◌, ◌^◌, ◌≡◌, ◌≤◌, ◌<◌, max, nat_lt, bit_or, bit_xor}
use Rattle.std.proofs.Common.{sym, arith, subst, zero-le}
use Rattle.std.proofs.lemmas.Nat.{and_le_l, and_le_r, or_lt, xor_lt, le_or_l, le_or_r, leading_length, mul-le, shr_le}
use Rattle.std.proofs.lemmas.Nat.{pow_pos, le-div, div-add-mod'}
use Rattle.std.proofs.Math.Nat.{div-le_self}
use Rattle.abstract_num.specs.proved.Shifts.{arsh_low}
use Rattle.abstract_num.specs.proved.Cases.{cond_both}
use Rattle.abstract_num.specs.Meaning.{row_value}
use Rattle.abstract_num.specs.proved.RowsFit.{row_value_fits}
use Rattle.abstract_num.specs.Parts.{InURange}
use Rattle.abstract_num.specs.UnsignedRows.{ends, all, digits, power, unsigned_row}
use Rattle.abstract_num.specs.declared.row.Row.{Row}
use Rattle.abstract_num.specs.declared.row.Row.TheVariants.{Add, Sub, Mul, Div, Mod, And, Or, Xor, LshBy, RshBy, Rsh}
use Rattle.abstract_num.specs.declared.row.Row.TheVariants.{ArshBy, Arsh, SignedLshBy, SignedArshBy, Cut}
use Rattle.abstract_num.specs.declared.urange.URange.{URange}

-- n is between two ends
abbrev pub Between : ℕ × ℕ → ℕ → Type 0
Between e n = (e.0 ≤ n) × (n ≤ e.1)

-- what a row gives of numbers between the ends
abbrev Keeps : Row → Type 0
Keeps r = (a b c d m n : ℕ) → b < 2 ^ 64 → d < 2 ^ 64 → a ≤ m → m ≤ b → c ≤ n → n ≤ d →
    Between (unsigned_row r a b c d) (row_value r m n)

add_keeps : Keeps Add
add_keeps a b c d m n f g p q r s = grind arith

sub_keeps : Keeps Sub
sub_keeps a b c d m n f g p q r s = grind arith

mul_keeps : Keeps Mul
mul_keeps a b c d m n f g p q r s =
    let low : a * c ≤ m * n = mul-le _ _ _ _ p r in
    let high : m * n ≤ b * d = mul-le _ _ _ _ q s in
    grind arith

div_mono : (a b c d : ℕ) → a ≤ b → 0 < d → d ≤ c → a / c ≤ b / d
div_mono a b c d p q r =
    let same : a / c ≤ a / c = omega arith in
    le-div (a / c) b d q (omega (arith, mul-le (a / c) d (a / c) c same r, div-add-mod' a c))

div_keeps : Keeps Div
div_keeps a b c d m n f g p q r s =
    let low : 1 ≤ c → a / d ≤ m / n = (λ h. div_mono _ _ _ _ p (omega arith) s) in
    let high : 1 ≤ c → m / n ≤ b / c = (λ h. div_mono _ _ _ _ q (omega arith) r) in
    let small : m / n ≤ m = div-le_self m n in
    grind arith

mod_keeps : Keeps Mod
mod_keeps a b c d m n f g p q r s = grind arith

and_keeps : Keeps And
and_keeps a b c d m n f g p q r s = let l = and_le_l m n in let k = and_le_r m n in grind arith

pub top_bits : (a : ℕ) → a < 2 ^ 64 → a < 2 ^ digits a
top_bits a h =
    let l = leading_length 64 a h in
    let e : digits a ≡ l.0 = omega (arith, l.1) in
    subst (λ k. a < 2 ^ k) (sym e) l.2

or_keeps : Keeps Or
or_keeps a b c d m n f g p q r s =
    let k = digits (max b d) in
    let t : max b d < 2 ^ k = top_bits (max b d) (omega arith) in
    let small : bit_or m n < 2 ^ k = or_lt k m n (omega arith) (omega arith) in
    (omega (arith, le_or_l m n, le_or_r m n), omega arith)

xor_keeps : Keeps Xor
xor_keeps a b c d m n f g p q r s =
    let k = digits (max b d) in
    let t : max b d < 2 ^ k = top_bits (max b d) (omega arith) in
    let small : bit_xor m n < 2 ^ k = xor_lt k m n (omega arith) (omega arith) in
    (zero-le, omega arith)

pub lsh_between : (k a b m : ℕ) → a ≤ m → m ≤ b → Between (unsigned_row (LshBy k) a b 0 0) (row_value (LshBy k) m 0)
lsh_between k a b m p q =
    let same : power k ≤ power k = omega arith in
    let low : a * power k ≤ m * power k = mul-le _ _ _ _ p same in
    let high : m * power k ≤ b * power k = mul-le _ _ _ _ q same in
    grind arith

lsh_by_keeps : (k : ℕ) → Keeps (LshBy k)
lsh_by_keeps k a b c d m n f g p q r s = lsh_between k a b m p q

rsh_by_keeps : (k : ℕ) → Keeps (RshBy k)
rsh_by_keeps k a b c d m n f g p q r s =
    let same : power k ≤ power k = omega arith in
    let up : 0 < power k = pow_pos (k % 64) in
    (div_mono _ _ _ _ p up same, div_mono _ _ _ _ q up same)

rsh_keeps : Keeps Rsh
rsh_keeps a b c d m n f g p q r s = (zero-le, omega (arith, shr_le m (n % 64)))

all_keeps : (n : ℕ) → n < 2 ^ 64 → Between all n
all_keeps n h = (zero-le, omega arith)

arsh_by_keeps : (k : ℕ) → Keeps (ArshBy k)
arsh_by_keeps k a b c d m n f g p q r s =
    cond_both (λ e. Between e (row_value (ArshBy k) m n)) (nat_lt b (2 ^ 63)) (ends (a / power k) (b / power k)) all
    (λ e. let low : m < 2 ^ 63 = grind arith in
    let same : row_value (ArshBy k) m n ≡ m / power k = arsh_low (k % 64) m low in
    let i = rsh_by_keeps k a b c d m n f g p q r s in
    (rw same i.0, rw same i.1))
    (λ e. all_keeps (row_value (ArshBy k) m n) (row_value_fits (ArshBy k) m n (omega arith) (omega arith)))

arsh_keeps : Keeps Arsh
arsh_keeps a b c d m n f g p q r s =
    cond_both (λ e. Between e (row_value Arsh m n)) (nat_lt b (2 ^ 63)) (ends 0 b) all
    (λ e. let low : m < 2 ^ 63 = grind arith in
    let same : row_value Arsh m n ≡ m / 2 ^ (n % 64) = arsh_low (n % 64) m low in
    (zero-le, rw same (omega (arith, shr_le m (n % 64)))))
    (λ e. all_keeps (row_value Arsh m n) (row_value_fits Arsh m n (omega arith) (omega arith)))

pub cut_between : (a b m : ℕ) → a ≤ m → m ≤ b → Between (unsigned_row Cut a b 0 0) (m % 2 ^ 32)
cut_between a b m p q = grind arith

cut_keeps : Keeps Cut
cut_keeps a b c d m n f g p q r s = cut_between a b m p q

pub unsigned_row_keeps : (r : Row) → Keeps r
unsigned_row_keeps Add = add_keeps
unsigned_row_keeps Sub = sub_keeps
unsigned_row_keeps Mul = mul_keeps
unsigned_row_keeps Div = div_keeps
unsigned_row_keeps Mod = mod_keeps
unsigned_row_keeps And = and_keeps
unsigned_row_keeps Or = or_keeps
unsigned_row_keeps Xor = xor_keeps
unsigned_row_keeps (LshBy k) = lsh_by_keeps k
unsigned_row_keeps (RshBy k) = rsh_by_keeps k
unsigned_row_keeps Rsh = rsh_keeps
unsigned_row_keeps (ArshBy k) = arsh_by_keeps k
unsigned_row_keeps Arsh = arsh_keeps
unsigned_row_keeps (SignedLshBy k) = lsh_by_keeps k
unsigned_row_keeps (SignedArshBy k) = arsh_by_keeps k
unsigned_row_keeps Cut = cut_keeps

-- the range from the one end to the other
abbrev pub IsSpan : URange → ℕ × ℕ → Type 0
IsSpan z e = (z.low ≡ e.0) × (z.high ≡ e.1)

abbrev pub URangeMoves : Row → URange → URange → URange → Type 0
URangeMoves r x y z = IsSpan z (unsigned_row r x.low x.high y.low y.high)

pub urange_moves_sound : (r : Row) (x y z : URange) → URangeMoves r x y z → (m n : ℕ) → InURange x m → InURange y n →
    InURange z (row_value r m n)
urange_moves_sound r x y z e m n p q =
    let h = unsigned_row_keeps r x.low x.high y.low y.high m n x.fits y.fits p.0 p.1 q.0 q.1 in
    (rw e.0 h.0, rw e.1 h.1, row_value_fits r m n p.2 q.2)
