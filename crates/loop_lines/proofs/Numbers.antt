-- Numbers that are read, and those that were written.
use Rattle.std.proofs.Common.{◌≡◌, ◌⊎◌, inl, inr, ℕ, ℤ, pos, negsuc, ◌==◌, ◌||◌, ◌&&◌, ◌^◌, ◌≤◌, ◌<◌, not, zero, suc, Bool, true, false, cond, List, [], ◌∷◌, length, slice_index, nat_le, Option, Some, None, Ok, Err, refl, ap, arith, lit<, FitsSigned}
use Rattle.std.specs.List.{list_all}
use Rattle.std.specs.Int.{w64}
use Rattle.std.specs.Char.{digit_value, is_digit}
use Rattle.std.specs.Fmt.{decimal, signed_decimal}
use Rattle.std.specs.Str.Parse.{AllDigits}
use Rattle.std.proofs.lemmas.Fmt.{decimal_is_IsNumeral, first_decimal, decimal_digit}
use Rattle.std.proofs.lemmas.Bool.Decides.{nat_tests}
use Rattle.text_digits.specs.Digits.{is_decimal}
use Rattle.asm_lines.specs.declared.fault.AsmFault.TheVariants.{Range}
use Rattle.asm_lines.specs.Texts.{is_blank}
use Rattle.asm_lines.specs.Numbers.{decimal_number, natural, natural_within, minus_within, plus_within, plain_within, value_of}
use Rattle.asm_lines.specs.Operands.{filled, unsigned_of}
use Rattle.loop_lines.specs.Reading.{unsigned_64, signed_64, decimal_within}
use Rattle.loop_lines.proofs.Words.{Free, is_cut, IsWord}

-- ---- decimal texts

pub digit_range : (c : ℕ) → digit_value c < 10 → (48 ≤ c) × (c ≤ 57)
digit_range c h = grind (arith, nat_tests)

digits_pass : (ds : List ℕ) → AllDigits 10 ds → list_all (λ c. is_digit c 10) ds ≡ true
digits_pass [] h = refl
digits_pass (c ∷ cs) h =
    let test : is_digit c 10 ≡ true = grind (arith, nat_tests) in
    rw (test, digits_pass cs h.1) refl

digit_free : (c : ℕ) → digit_value c < 10 → (is_blank c ≡ false) × (is_cut c ≡ false)
digit_free c h = let r = digit_range c h in (grind (arith, nat_tests), grind (arith, nat_tests))

digits_blank : (ds : List ℕ) → AllDigits 10 ds → Free is_blank ds
digits_blank [] h = tt
digits_blank (c ∷ cs) h = ((digit_free c h.0).0, digits_blank cs h.1)

digits_cut : (ds : List ℕ) → AllDigits 10 ds → Free is_cut ds
digits_cut [] h = tt
digits_cut (c ∷ cs) h = ((digit_free c h.0).1, digits_cut cs h.1)

-- a byte of digits, or the 0 after them
at_range : (ds : List ℕ) → AllDigits 10 ds → (k : ℕ) → (slice_index ds k ≡ 0) ⊎ ((48 ≤ slice_index ds k) × (slice_index ds k ≤ 57))
at_range [] a k = inl refl
at_range (c ∷ cs) a zero = inr (digit_range c a.0)
at_range (c ∷ cs) a (suc k) = at_range cs a.1 k

not_at : (v b : ℕ) → (v ≡ 0) ⊎ ((48 ≤ v) × (v ≤ 57)) → 0 < b → (b < 48) ⊎ (57 < b) → (v == b) ≡ false
not_at v b r some out = grind (arith, nat_tests)

pub decimal_not : (n : ℕ) → n < 2 ^ 64 → (k b : ℕ) → 0 < b → (b < 48) ⊎ (57 < b) → (slice_index (decimal n) k == b) ≡ false
decimal_not n h k b some out = not_at (slice_index (decimal n) k) b (at_range (decimal n) (decimal_is_IsNumeral n h).0.1 k) some out

pub decimal_word : (n : ℕ) → n < 2 ^ 64 → IsWord (decimal n)
decimal_word n h =
    let numeral = (decimal_is_IsNumeral n h).0 in
    record { some = numeral.0; blank = digits_blank (decimal n) numeral.1; cut = digits_cut (decimal n) numeral.1 }

or_true : (a : Bool) → (a || true) ≡ true
or_true true = refl
or_true false = refl

and_false : (a : Bool) → (a && false) ≡ false
and_false true = refl
and_false false = refl

leads : (n : ℕ) → n < 2 ^ 64 → (length (decimal n) == 1 || not (slice_index (decimal n) 0 == 48)) ≡ true
leads zero h = rw (decimal_digit 0 (lit< tt)) refl
leads (suc m) h =
    let first = first_decimal (suc m) (omega arith) h in
    let other : (slice_index (decimal (suc m)) 0 == 48) ≡ false = grind (arith, nat_tests) in
    rw other (or_true (length (decimal (suc m)) == 1))

decimals : (n : ℕ) → n < 2 ^ 64 → is_decimal (decimal n) ≡ true
decimals n h =
    let numeral = decimal_is_IsNumeral n h in
    let some = numeral.0.0 in
    let none : (length (decimal n) == 0) ≡ false = grind (arith, nat_tests) in
    rw (none, digits_pass (decimal n) numeral.0.1, leads n h) refl

-- ---- numbers that were written are read

pub within_reads : (most n : ℕ) → n < 2 ^ 64 → n ≤ most → decimal_within most (decimal n) ≡ Some n
within_reads most n h low =
    let test : nat_le n most ≡ true = grind (arith, nat_tests) in
    rw (decimals n h, (decimal_is_IsNumeral n h).1, test) refl

natural_reads : (n : ℕ) → n < 2 ^ 64 → natural (decimal n) ≡ Some n
unfolding natural decimal_number
natural_reads n h =
    rw (decimal_not n h 1 120 (lit< tt) (inr (lit< tt)), and_false (slice_index (decimal n) 0 == 48), decimals n h) (ap (λ v. Some v) (decimal_is_IsNumeral n h).1)

plus_reads : (below above n : ℕ) → n < 2 ^ 64 → n ≤ above → plain_within below above (decimal n) ≡ Ok (record { negative = false; magnitude = n })
unfolding plain_within plus_within
plus_reads below above n h low =
    let test : nat_le n above ≡ true = grind (arith, nat_tests) in
    rw (decimal_not n h 0 45 (lit< tt) (inl (lit< tt)), natural_reads n h, test) refl

minus_reads : (below above n : ℕ) → n < 2 ^ 64 → 0 < n → n ≤ below → plain_within below above (45 ∷ decimal n) ≡ Ok (record { negative = true; magnitude = n })
unfolding plain_within minus_within
minus_reads below above n h some low =
    let test : nat_le n below ≡ true = grind (arith, nat_tests) in
    let other : (n == 0) ≡ false = grind (arith, nat_tests) in
    rw (natural_reads n h, test, other) refl

pub unsigned_reads : (n : ℕ) → n < 2 ^ 64 → unsigned_64 (decimal n) ≡ Ok n
unfolding unsigned_of
unsigned_reads n h = rw (plus_reads 0 18446744073709551615 n h (omega arith)) refl

pub signed_reads : (z : ℤ) → FitsSigned w64 z → signed_64 (signed_decimal z) ≡ Ok z
unfolding signed_64
signed_reads (pos n) h = ap (filled value_of) (plus_reads 9223372036854775808 9223372036854775807 n (omega arith) (omega arith))
signed_reads (negsuc n) h = ap (filled value_of) (minus_reads 9223372036854775808 9223372036854775807 (suc n) (omega arith) (omega arith) (omega arith))

pub signed_word : (z : ℤ) → FitsSigned w64 z → IsWord (signed_decimal z)
signed_word (pos n) h = decimal_word n (omega arith)
signed_word (negsuc n) h =
    let d = decimal_word (suc n) (omega arith) in
    record { some = omega arith; blank = (refl, d.blank); cut = (refl, d.cut) }
