-- Lemmas on the numbers that digits write.
use Rattle.std.proofs.Common.{◌≡◌, ℕ, ◌+◌, ◌*◌, ◌≤◌, ◌<◌, List, [], ◌∷◌, arith, length, drop, get_or, suc, sym, ap, ◌∙◌, drop-cons}
use Rattle.std.proofs.Math.Nat.{le-mul_of_pos_right}
use Rattle.std.specs.Char.{digit_value}
use Rattle.std.specs.Str.Parse.{digits_value_after, digits_value}

times_ge : (r n : ℕ) → 1 ≤ r → n ≤ n * r
times_ge r n h = le-mul_of_pos_right n (omega arith)

-- further digits never make the number smaller
pub digits_value_after_ge : (radix n : ℕ) (ds : List ℕ) → 1 ≤ radix → n ≤ digits_value_after radix n ds
digits_value_after_ge radix n [] h = omega arith
digits_value_after_ge radix n (c ∷ cs) h =
    omega (arith, times_ge radix n h, digits_value_after_ge radix (n * radix + digit_value c) cs h)

-- a digit that brings the number above a bound leaves the whole above it
pub digits_over : (radix v i most : ℕ) (s : List ℕ) → 1 ≤ radix → i < length s → digits_value_after radix v (drop i s) ≡ digits_value radix s → (a b d : ℕ) → a ≡ v → b ≡ radix → d ≡ digit_value (get_or s i 0) → most < a * b + d → most < digits_value radix s
digits_over radix v i most s low inside same a b d ea eb ed more =
    let next : a * b + d ≡ v * radix + digit_value (get_or s i 0) = cc in
    let parts : drop i s ≡ get_or s i 0 ∷ drop (suc i) s = drop-cons s i 0 inside in
    let more_digits = digits_value_after_ge radix (v * radix + digit_value (get_or s i 0)) (drop (suc i) s) low in
    let whole : digits_value_after radix (v * radix + digit_value (get_or s i 0)) (drop (suc i) s) ≡ digits_value radix s =
    sym (ap (digits_value_after radix v) parts) ∙ same in
    omega (arith, more_digits, whole, next)
