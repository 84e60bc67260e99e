-- The number of a wide load is read from its sixteen digits.
use Rattle.std.proofs.Common.{◌≡◌, ℕ, ◌+◌, ◌*◌, ◌/◌, ◌%◌, ◌^◌, ◌<◌, zero, suc, true, List, [], ◌∷◌, ◌++◌, length, Some, Ok, refl, arith, nat_le, length-append}
use Rattle.std.specs.List.{list_all}
use Rattle.std.proofs.Math.Nat.{pow-succ'}
use Rattle.std.specs.Char.{digit_value, is_digit, digit_char}
use Rattle.std.specs.Str.Parse.{digits_value, digits_value_after}
use Rattle.std.proofs.lemmas.Bool.Decides.{nat_tests}
use Rattle.asm_lines.specs.Numbers.{hex_number, natural, plus_within, plain_within}
use Rattle.asm_lines.specs.Canonical.{hex_digits, wide_text}
use Rattle.asm_lines.specs.Operands.{unsigned_of}
use Rattle.bpf_asm.proofs.PlainBytes.{is_plain, all_append}

char_value : (d : ℕ) → d < 16 → digit_value (digit_char d) ≡ d
char_value d h = grind (arith, nat_tests)

char_plain : (d : ℕ) → d < 16 → is_plain (digit_char d) ≡ true
char_plain d h = grind (arith, nat_tests)

value_push : (v : ℕ) (xs : List ℕ) (c : ℕ) → digits_value_after 16 v (xs ++ (c ∷ [])) ≡ digits_value_after 16 v xs * 16 + digit_value c
value_push v [] c = refl
value_push v (x ∷ xs) c = value_push (v * 16 + digit_value x) xs c

power : (k : ℕ) → 16 ^ suc k ≡ 16 * 16 ^ k
power k = pow-succ' 16 k

hex_value : (k n : ℕ) → n < 16 ^ k → digits_value 16 (hex_digits k n) ≡ n
unfolding hex_digits
hex_value zero n h = omega arith
hex_value (suc k) n h =
    let small : n / 16 < 16 ^ k = omega (arith, power k) in
    omega (arith, value_push 0 (hex_digits k (n / 16)) (digit_char (n % 16)), hex_value k (n / 16) small, char_value (n % 16) (omega arith))

hex_length : (k n : ℕ) → length (hex_digits k n) ≡ k
unfolding hex_digits
hex_length zero n = refl
hex_length (suc k) n = omega (arith, length-append (hex_digits k (n / 16)) (digit_char (n % 16) ∷ []), hex_length k (n / 16))

hex_pass : (k n : ℕ) → list_all (λ c. is_digit c 16) (hex_digits k n) ≡ true
unfolding hex_digits
hex_pass zero n = refl
hex_pass (suc k) n =
    let test : is_digit (digit_char (n % 16)) 16 ≡ true = rw (char_value (n % 16) (omega arith)) (grind (arith, nat_tests)) in
    let last : list_all (λ c. is_digit c 16) (digit_char (n % 16) ∷ []) ≡ true = rw test refl in
    all_append (λ c. is_digit c 16) (hex_digits k (n / 16)) (digit_char (n % 16) ∷ []) (hex_pass k (n / 16)) last

hex_plain : (k n : ℕ) → list_all is_plain (hex_digits k n) ≡ true
unfolding hex_digits
hex_plain zero n = refl
hex_plain (suc k) n =
    let last : list_all is_plain (digit_char (n % 16) ∷ []) ≡ true = rw (char_plain (n % 16) (omega arith)) refl in
    all_append is_plain (hex_digits k (n / 16)) (digit_char (n % 16) ∷ []) (hex_plain k (n / 16)) last

pub wide_plain : (n : ℕ) → list_all is_plain (wide_text n) ≡ true
wide_plain n = hex_plain 16 n

hex_reads : (n : ℕ) → n < 2 ^ 64 → hex_number (hex_digits 16 n) ≡ Some n
unfolding hex_number
hex_reads n h = rw (hex_length 16 n, hex_pass 16 n, hex_value 16 n h) refl

pub wide_reads : (n : ℕ) → n < 2 ^ 64 → unsigned_of 18446744073709551615 (wide_text n) ≡ Ok n
unfolding unsigned_of plain_within plus_within natural
wide_reads n h =
    let test : nat_le n 18446744073709551615 ≡ true = grind (arith, nat_tests) in
    rw (hex_reads n h, test) refl
