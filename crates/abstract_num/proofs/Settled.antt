-- What tightening leaves as it is: every number, and a constant.
use Rattle.std.proofs.Common.{◌≡◌, ℕ, ℤ, pos, ◌+◌, ◌+ℤ◌, ◌≤ℤ◌, ◌<ℤ◌, ◌^◌, ◌<◌, ◌≤◌, Option, Some, None, true, false, cond, refl, ap, sym, subst, ◌∙◌, arith, eq-eqb}
use Rattle.std.specs.Prelude.{option_and_then, max, min, Bool, ◌==◌, ◌&&◌, nat_lt, nat_le, int_le, int_lt}
use Rattle.std.specs.Int.{int_max, int_min}
use Rattle.std.proofs.lemmas.Int.{ints, clamps}
use Rattle.abstract_num.specs.Signed.{signed, signed_half}
use Rattle.abstract_num.specs.proved.BitsRows.{clear_zero}
use Rattle.abstract_num.specs.proved.Cases.{cond_dec, cond_both, and_first, and_second}
use Rattle.abstract_num.specs.Plain.{Plain, any, constant}
use Rattle.abstract_num.specs.Tighten.{natural, less_all, plus_all, meet_unsigned, meet_signed, by_bits, by_unsigned, by_signed, by_constant, tighten_whole, is_short, meet_half, by_half, half_of_constant, tighten_again, tighten_halves, tighten}
use Rattle.abstract_num.specs.Transfer.{is_constant, count_of, row_in, known, finished64, transferred}
use Rattle.abstract_num.specs.declared.precision.Precision.{Precision}
use Rattle.abstract_num.specs.declared.precision.Precision.TheVariants.{Whole, Halves}
use Rattle.abstract_num.specs.declared.row.RowAnswer.TheVariants.{Exact}
use Rattle.bpf_decode.specs.Arithmetic.{alu_value}
use Rattle.bpf_decode.specs.declared.operation.OpWidth.TheVariants.{Bits64}
use Rattle.bpf_decode.specs.declared.operation.Arithmetic.TheVariants as op
use Rattle.abstract_num.proofs.Tight.{signed_high, signed_low, sign_of, sign_below, short_half, half_positive, meets_low, meets_high, one_number}
use Rattle.abstract_num.proofs.Steps.{from_first, from_second, first_step}

pub tighten-any : (precision : Precision) → tighten precision any ≡ Some any
unfolding tighten_whole
tighten-any Whole = refl
tighten-any Halves = refl

-- where no step changes a number, the last decides
settled : (x : Plain) → by_bits x ≡ x → by_unsigned x ≡ x → by_signed x ≡ x → nat_lt x.high x.low ≡ false → int_lt x.greatest x.least ≡ false → tighten_whole x ≡ by_constant x
settled x a b c d e =
    let last : cond (nat_lt (by_signed x).high (by_signed x).low) None (by_constant (by_signed x)) ≡ by_constant x =
    subst (λ (s : Plain). cond (nat_lt s.high s.low) None (by_constant s) ≡ by_constant x) (sym c) (ap (λ (b : Bool). cond b None (by_constant x)) d) in
    let second : from_first x ≡ by_constant x =
    subst (λ (s : Plain). cond (int_lt s.greatest s.least) None (from_second s) ≡ by_constant x) (sym b) (ap (λ (b : Bool). cond b None (from_second x)) e ∙ last) in
    first_step x ∙ subst (λ (s : Plain). cond (nat_lt s.high s.low) None (from_first s) ≡ by_constant x) (sym a) (ap (λ (b : Bool). cond b None (from_first x)) d ∙ second)

abbrev with_range : ℕ → ℤ → ℤ → ℕ → ℕ → Plain
with_range n h k low high = record { low = low; high = high; least = signed n; greatest = signed n; value = n; unknown = 0; half_least = h; half_greatest = k }

abbrev with_signs : ℕ → ℤ → ℤ → ℤ → ℤ → Plain
with_signs n h k least greatest = record { low = n; high = n; least = least; greatest = greatest; value = n; unknown = 0; half_least = h; half_greatest = k }

-- n alone, but for its half
abbrev alone : ℕ → ℤ → ℤ → Plain
alone n h k = record { low = n; high = n; least = signed n; greatest = signed n; value = n; unknown = 0; half_least = h; half_greatest = k }

max_same : (n a : ℕ) → a ≡ n → max n a ≡ n
max_same n a e = omega arith

min_same : (n a : ℕ) → a ≡ n → min n a ≡ n
min_same n a e = omega arith

met_range : (n : ℕ) (h k : ℤ) (a b : ℕ) → a ≡ n → b ≡ n → meet_unsigned (alone n h k) a b ≡ alone n h k
met_range n h k a b e f = ap (λ (u : ℕ). with_range n h k u (min n b)) (max_same n a e) ∙ ap (λ (u : ℕ). with_range n h k n u) (min_same n b f)

greatest_same : (z : ℤ) → int_max z z ≡ z
greatest_same z = omega (arith, ints, clamps)

least_same : (z : ℤ) → int_min z z ≡ z
least_same z = omega (arith, ints, clamps)

met_signs : (n : ℕ) (h k : ℤ) → meet_signed (alone n h k) (signed n) (signed n) ≡ alone n h k
met_signs n h k =
    ap (λ (z : ℤ). with_signs n h k z (int_min (signed n) (signed n))) (greatest_same (signed n)) ∙ ap (λ (z : ℤ). with_signs n h k (signed n) z) (least_same (signed n))

no_more : (n : ℕ) → n + 0 ≡ n
no_more n = omega arith

at_half : {A : Type 0} (n : ℕ) → (n < 2 ^ 63 → A) → (2 ^ 63 ≤ n → A) → A
at_half n f g = cond_dec (nat_le (2 ^ 63) n) (λ e. g (grind arith)) (λ e. f (grind arith))

unsigned_stays : (n : ℕ) (p q : ℤ) → n < 2 ^ 64 → by_unsigned (alone n p q) ≡ alone n p q
unsigned_stays n p q h =
    at_half n
    (λ l. meets_low (alone n p q) (signed n) (signed n) (omega arith) l refl refl ∙ met_signs n p q)
    (λ l. meets_high (alone n p q) (signed n) (signed n) (omega arith) h l refl refl ∙ met_signs n p q)

up_again : (n : ℕ) → (less_all n +ℤ pos (2 ^ 64)) ≡ pos n
up_again n = omega (arith, ints)

not_negative : (z : ℤ) → int_le (pos 0) z ≡ true → pos 0 ≤ℤ z
not_negative z e = grind (arith, ints)

negative : (z : ℤ) → int_lt z (pos 0) ≡ true → z <ℤ pos 0
negative z e = grind (arith, ints)

signed_stays : (n : ℕ) (p q : ℤ) → n < 2 ^ 64 → by_signed (alone n p q) ≡ alone n p q
signed_stays n p q h =
    cond_both (λ y. y ≡ alone n p q) (int_le (pos 0) (signed n)) _ _
    (λ e. let s = ap natural (signed_low n (sign_of n (not_negative (signed n) e) h)) in met_range n p q _ _ s s)
    (λ _. cond_both (λ y. y ≡ alone n p q) (int_lt (signed n) (pos 0)) _ _
    (λ e. let s = ap plus_all (signed_high n (sign_below n (negative (signed n) e) h) h) ∙ ap natural (up_again n) in met_range n p q _ _ s s)
    (λ _. refl))

itself : (z : ℤ) → int_le z z ≡ true
itself z = grind (arith, ints)

nat_same : (n : ℕ) → nat_lt n n ≡ false
nat_same n = grind arith

int_same : (z : ℤ) → int_lt z z ≡ false
int_same z = grind (arith, ints)

whole_stays : (n : ℕ) (p q : ℤ) → n < 2 ^ 64 → tighten_whole (alone n p q) ≡ Some (alone n p q)
whole_stays n p q h =
    settled (alone n p q) (met_range n p q n (n + 0) refl (no_more n)) (unsigned_stays n p q h) (signed_stays n p q h) (nat_same n) (int_same (signed n))
    ∙ one_number (alone n p q) (signed n) (signed n) (signed n) refl refl refl refl (clear_zero n) (itself (signed n)) (itself (signed n))

abbrev with_halves : ℕ → ℤ → ℤ → ℤ → ℤ → Plain
with_halves n p q h k = record { low = n; high = n; least = p; greatest = q; value = n; unknown = 0; half_least = h; half_greatest = k }

greatest_equal : (a b : ℤ) → a ≡ b → int_max a b ≡ a
greatest_equal a b e = omega (arith, ints, clamps)

least_equal : (a b : ℤ) → a ≡ b → int_min a b ≡ a
least_equal a b e = omega (arith, ints, clamps)

met_half : (n : ℕ) → signed n ≡ signed_half n → meet_half (constant n) ≡ constant n
met_half n e =
    let a = greatest_equal (signed n) (signed_half n) e in
    let b = least_equal (signed n) (signed_half n) e in
    ap (λ (z : ℤ). with_halves n z (int_min (signed n) (signed_half n)) z (int_min (signed n) (signed_half n))) a
    ∙ ap (λ (z : ℤ). with_halves n (signed n) z (signed n) z) b
    ∙ ap (λ (z : ℤ). with_halves n (signed n) (signed n) z z) e

int_lt_is : (a b : ℤ) → int_lt a b ≡ true → a <ℤ b
int_lt_is a b e = grind (arith, ints)

int_le_is : (a b : ℤ) → int_le a b ≡ true → a ≤ℤ b
int_le_is a b e = grind (arith, ints)

nat_lt_is : (a b : ℕ) → nat_lt a b ≡ true → a < b
nat_lt_is a b e = grind arith

half_stays : (n : ℕ) → n < 2 ^ 64 → by_half (constant n) ≡ constant n
half_stays n h =
    cond_both (λ y. y ≡ constant n) (is_short (constant n)) _ _
    (λ e. met_half n (short_half n h (int_le_is _ _ (and_first _ _ e)) (int_lt_is _ _ (and_second _ _ e))))
    (λ _. cond_both (λ y. y ≡ constant n) (nat_lt n (2 ^ 32) && int_le (pos 0) (signed_half n)) _ _
    (λ e. let s = ap natural (half_positive n (nat_lt_is _ _ (and_first (nat_lt n (2 ^ 32)) (int_le (pos 0) (signed_half n)) e)) (int_le_is _ _ (and_second (nat_lt n (2 ^ 32)) (int_le (pos 0) (signed_half n)) e))) in
    met_range n (signed_half n) (signed_half n) _ _ s s)
    (λ _. refl))

-- nothing narrows a number to itself
same_again : (n : ℕ) → tighten_again (constant n) (constant n) ≡ Some (constant n)
same_again n = rw (nat_same n, int_same (signed n)) refl

half_of_itself : (n : ℕ) → half_of_constant (constant n) ≡ Some (constant n)
half_of_itself n = rw (eq-eqb n n refl, itself (signed_half n)) refl

constant_halves : (n : ℕ) → n < 2 ^ 64 → tighten_halves (constant n) ≡ Some (constant n)
constant_halves n h =
    ap (λ (o : Option Plain). option_and_then half_of_constant (option_and_then (λ y. tighten_again y (by_half y)) o)) (whole_stays n (signed_half n) (signed_half n) h)
    ∙ ap (λ (y : Plain). option_and_then half_of_constant (tighten_again (constant n) y)) (half_stays n h)
    ∙ ap (λ (o : Option Plain). option_and_then half_of_constant o) (same_again n)
    ∙ half_of_itself n

pub tighten-constant : (precision : Precision) (n : ℕ) → n < 2 ^ 64 → tighten precision (constant n) ≡ Some (known precision n)
tighten-constant Whole n h = whole_stays n any.half_least any.half_greatest h
tighten-constant Halves n h = constant_halves n h

-- the sum of two constants
pub offset-constant : (precision : Precision) (x : Plain) (d v : ℕ) → is_constant x ≡ true → v ≡ alu_value Bits64 op.Add x.low d → v < 2 ^ 64 → transferred precision Bits64 op.Add x (constant d) ≡ Some (known precision v)
offset-constant precision x d v e f h =
    let rest = row_in precision op.Add (count_of 64 (constant d)) x in
    ap (λ (b : Bool). finished64 precision (cond (b && (d == d)) (Exact (alu_value Bits64 op.Add x.low d)) rest) x (constant d)) e
    ∙ ap (λ (b : Bool). finished64 precision (cond b (Exact (alu_value Bits64 op.Add x.low d)) rest) x (constant d)) (eq-eqb d d refl)
    ∙ ap (λ (n : ℕ). tighten precision (constant n)) (sym f)
    ∙ tighten-constant precision v h
