-- The texts of numbers are read as those numbers.
use Rattle.std.proofs.Common.{◌≡◌, ℕ, ℤ, pos, negsuc, ◌==◌, ◌||◌, ◌&&◌, ◌^◌, ◌≤◌, ◌<◌, ◌⊎◌, inl, inr, not, zero, suc, Bool, true, false, List, [], ◌∷◌, length, Some, Ok, refl, ap, ◌∙◌, arith, slice_index, nat_le, lit<, FitsSigned}
use Rattle.std.specs.List.{list_all}
use Rattle.std.specs.Int.{w16, w32}
use Rattle.std.specs.Char.{digit_value, is_digit}
use Rattle.std.specs.Fmt.{decimal, signed_decimal}
use Rattle.std.specs.Str.Parse.{AllDigits, digits_value}
use Rattle.std.proofs.lemmas.Fmt.{decimal_is_IsNumeral, first_decimal, decimal_digit}
use Rattle.std.proofs.lemmas.Bool.Decides.{nat_tests}
use Rattle.asm_lines.specs.Numbers.{decimal_number, natural, minus_within, plus_within, plain_within, signed_within, value_of}
use Rattle.asm_lines.specs.Canonical.{register_text, offset_text}
use Rattle.asm_lines.specs.Operands.{filled, register_of, immediate_of, offset_of, distance_of, unsigned_of}
use Rattle.bpf_asm.proofs.PlainBytes.{is_plain}

pub digit_range : (c : ℕ) → digit_value c < 10 → (48 ≤ c) × (c ≤ 57)
digit_range c h = grind (arith, nat_tests)

digit_plain : (c : ℕ) → digit_value c < 10 → is_plain c ≡ true
digit_plain c h = let r = digit_range c h in grind (arith, nat_tests)

digits_pass : (ds : List ℕ) → AllDigits 10 ds → list_all (λ c. is_digit c 10) ds ≡ true
digits_pass [] h = refl
digits_pass (c ∷ cs) h =
    let test : is_digit c 10 ≡ true = grind (arith, nat_tests) in
    rw (test, digits_pass cs h.1) refl

digits_plain : (ds : List ℕ) → AllDigits 10 ds → list_all is_plain ds ≡ true
digits_plain [] h = refl
digits_plain (c ∷ cs) h = rw (digit_plain c h.0, digits_plain cs h.1) refl

-- a byte of digits, or the 0 after them
pub at_range : (ds : List ℕ) → AllDigits 10 ds → (k : ℕ) → (slice_index ds k ≡ 0) ⊎ ((48 ≤ slice_index ds k) × (slice_index ds k ≤ 57))
at_range [] a k = inl refl
at_range (c ∷ cs) a zero = inr (digit_range c a.0)
at_range (c ∷ cs) a (suc k) = at_range cs a.1 k

pub not_at : (v b : ℕ) → (v ≡ 0) ⊎ ((48 ≤ v) × (v ≤ 57)) → 0 < b → (b < 48) ⊎ (57 < b) → (v == b) ≡ false
not_at v b r some out = grind (arith, nat_tests)

pub decimal_not : (n : ℕ) → n < 2 ^ 64 → (k b : ℕ) → 0 < b → (b < 48) ⊎ (57 < b) → (slice_index (decimal n) k == b) ≡ false
decimal_not n h k b some out = not_at (slice_index (decimal n) k) b (at_range (decimal n) (decimal_is_IsNumeral n h).0.1 k) some out

pub decimal_plain : (n : ℕ) → n < 2 ^ 64 → list_all is_plain (decimal n) ≡ true
decimal_plain n h = digits_plain (decimal n) (decimal_is_IsNumeral n h).0.1

read_digits : (ds : List ℕ) → AllDigits 10 ds → 0 < length ds → (length ds == 1 || not (slice_index ds 0 == 48)) ≡ true → decimal_number ds ≡ Some (digits_value 10 ds)
unfolding decimal_number
read_digits ds a some lead =
    let none : (length ds == 0) ≡ false = grind (arith, nat_tests) in
    rw (none, digits_pass ds a, lead) refl

pub or_true : (a : Bool) → (a || true) ≡ true
or_true true = refl
or_true false = refl

and_false : (a : Bool) → (a && false) ≡ false
and_false true = refl
and_false false = refl

leads : (n : ℕ) → n < 2 ^ 64 → (length (decimal n) == 1 || not (slice_index (decimal n) 0 == 48)) ≡ true
leads zero h = rw (decimal_digit 0 (lit< tt)) refl
leads (suc m) h =
    let first = first_decimal (suc m) (omega arith) h in
    let other : (slice_index (decimal (suc m)) 0 == 48) ≡ false = grind (arith, nat_tests) in
    rw other (or_true (length (decimal (suc m)) == 1))

pub decimal_reads : (n : ℕ) → n < 2 ^ 64 → decimal_number (decimal n) ≡ Some n
decimal_reads n h =
    let numeral = decimal_is_IsNumeral n h in
    read_digits (decimal n) numeral.0.1 numeral.0.0 (leads n h) ∙ ap (λ v. Some v) numeral.1

natural_reads : (n : ℕ) → n < 2 ^ 64 → natural (decimal n) ≡ Some n
unfolding natural
natural_reads n h =
    rw (decimal_not n h 1 120 (lit< tt) (inr (lit< tt)), and_false (slice_index (decimal n) 0 == 48)) (decimal_reads n h)

plus_reads : (above n : ℕ) → n < 2 ^ 64 → n ≤ above → plus_within above (decimal n) ≡ Ok (record { negative = false; magnitude = n })
unfolding plus_within
plus_reads above n h within =
    let test : nat_le n above ≡ true = grind (arith, nat_tests) in
    rw (natural_reads n h, test) refl

minus_reads : (below n : ℕ) → n < 2 ^ 64 → 0 < n → n ≤ below → minus_within below (decimal n) ≡ Ok (record { negative = true; magnitude = n })
unfolding minus_within
minus_reads below n h some within =
    let test : nat_le n below ≡ true = grind (arith, nat_tests) in
    let other : (n == 0) ≡ false = grind (arith, nat_tests) in
    rw (natural_reads n h, test, other) refl

pub plain_decimal : (below above n : ℕ) → n < 2 ^ 64 → n ≤ above → plain_within below above (decimal n) ≡ Ok (record { negative = false; magnitude = n })
unfolding plain_within
plain_decimal below above n h within = rw (decimal_not n h 0 45 (lit< tt) (inl (lit< tt))) (plus_reads above n h within)

plain_minus : (below above n : ℕ) → n < 2 ^ 64 → 0 < n → n ≤ below → plain_within below above (45 ∷ decimal n) ≡ Ok (record { negative = true; magnitude = n })
unfolding plain_within
plain_minus below above n h some within = minus_reads below n h some within

signed_plus : (below above n : ℕ) → n < 2 ^ 64 → n ≤ above → signed_within below above (43 ∷ decimal n) ≡ Ok (record { negative = false; magnitude = n })
unfolding signed_within
signed_plus below above n h within = plus_reads above n h within

signed_minus : (below above n : ℕ) → n < 2 ^ 64 → 0 < n → n ≤ below → signed_within below above (45 ∷ decimal n) ≡ Ok (record { negative = true; magnitude = n })
unfolding signed_within
signed_minus below above n h some within = minus_reads below n h some within

pub immediate_reads : (z : ℤ) → FitsSigned w32 z → immediate_of (signed_decimal z) ≡ Ok z
unfolding immediate_of
immediate_reads (pos n) h = ap (filled value_of) (plain_decimal 2147483648 2147483647 n (omega arith) (omega arith))
immediate_reads (negsuc n) h = ap (filled value_of) (plain_minus 2147483648 2147483647 (suc n) (omega arith) (omega arith) (omega arith))

pub offset_reads : (z : ℤ) → FitsSigned w16 z → offset_of (offset_text z) ≡ Ok z
unfolding offset_of
offset_reads (pos n) h = ap (filled value_of) (signed_plus 32768 32767 n (omega arith) (omega arith))
offset_reads (negsuc n) h = ap (filled value_of) (signed_minus 32768 32767 (suc n) (omega arith) (omega arith) (omega arith))

pub distance_reads : (z : ℤ) → FitsSigned w32 z → distance_of (offset_text z) ≡ Ok z
unfolding distance_of
distance_reads (pos n) h = ap (filled value_of) (signed_plus 2147483648 2147483647 n (omega arith) (omega arith))
distance_reads (negsuc n) h = ap (filled value_of) (signed_minus 2147483648 2147483647 (suc n) (omega arith) (omega arith) (omega arith))

pub helper_reads : (n : ℕ) → n < 2 ^ 32 → unsigned_of 4294967295 (decimal n) ≡ Ok n
unfolding unsigned_of
helper_reads n h = rw (plain_decimal 0 4294967295 n (omega arith) (omega arith)) refl

pub register_reads : (n : ℕ) → n ≤ 10 → register_of (register_text n) ≡ Ok n
unfolding register_of
register_reads n h =
    let test : nat_le n 10 ≡ true = grind (arith, nat_tests) in
    rw (decimal_reads n (omega arith), test) refl

-- the texts of operands are plain
pub register_plain : (n : ℕ) → n ≤ 10 → list_all is_plain (register_text n) ≡ true
register_plain n h = decimal_plain n (omega arith)

pub signed_plain : (z : ℤ) → FitsSigned w32 z → list_all is_plain (signed_decimal z) ≡ true
signed_plain (pos n) h = decimal_plain n (omega arith)
signed_plain (negsuc n) h = decimal_plain (suc n) (omega arith)

pub offset_plain : (z : ℤ) → FitsSigned w32 z → list_all is_plain (offset_text z) ≡ true
offset_plain (pos n) h = decimal_plain n (omega arith)
offset_plain (negsuc n) h = decimal_plain (suc n) (omega arith)
