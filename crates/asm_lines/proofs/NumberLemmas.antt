-- Lemmas on numbers in texts.
use Rattle.std.proofs.Common.{◌≡◌, ℕ, ◌≤◌, List, refl, arith, drop, sym, ◌∙◌, Ok, Err, Result, IsTrue, slice_index, Bool, true, false, cond, nat_le, subst, ◌==◌, ◌&&◌, Option, Some, None}
use Rattle.asm_lines.specs.declared.number.Number.{Number}
use Rattle.asm_lines.specs.Numbers.{natural, natural_within, as_negative, as_nonnegative, minus_within, plus_within, plain_within, signed_within, is_within}
use Rattle.asm_lines.specs.declared.fault.AsmFault.{AsmFault}
use Rattle.asm_lines.specs.declared.fault.AsmFault.TheVariants.{Operand, Range}
use Rattle.std.proofs.lemmas.Bool.Decides.{nat_tests}

-- what is read is in its range
negative_fits : (below above m : ℕ) (b z : Bool) (n : Number) → b ≡ nat_le m below → cond z (Err Operand) (cond b (Ok (record { negative = true; magnitude = m })) (Err Range)) ≡ Ok n → IsTrue (is_within below above n)
negative_fits below above m b true n e h = absurd cc
negative_fits below above m false false n e h = absurd cc
negative_fits below above m true false n e h =
    let same : record { negative = true; magnitude = m } ≡ n = cc in
    let P : Number → Type 0 = λ v. IsTrue (is_within below above v) in
    subst P same (sym e)

nonnegative_fits : (below above m : ℕ) (b : Bool) (n : Number) → b ≡ nat_le m above → as_nonnegative (cond b (Ok m) (Err Range)) ≡ Ok n → IsTrue (is_within below above n)
nonnegative_fits below above m false n e h = absurd cc
nonnegative_fits below above m true n e h =
    let same : record { negative = false; magnitude = m } ≡ n = cc in
    let P : Number → Type 0 = λ v. IsTrue (is_within below above v) in
    subst P same (sym e)

swapped : (b z : Bool) (m : ℕ) → as_negative (cond b (Ok m) (Err Range)) ≡ cond (b && (m == 0)) (Err Operand) (cond b (Ok (record { negative = true; magnitude = m })) (Err Range))
swapped false z m = refl
swapped true z m = refl

minus_fits_at : (below above : ℕ) (o : Option ℕ) (n : Number) → as_negative (natural_within below o) ≡ Ok n → IsTrue (is_within below above n)
minus_fits_at below above None n h = absurd cc
minus_fits_at below above (Some m) n h =
    negative_fits below above m (nat_le m below) (nat_le m below && (m == 0)) n refl (sym (swapped (nat_le m below) true m) ∙ h)

plus_fits_at : (below above : ℕ) (o : Option ℕ) (n : Number) → as_nonnegative (natural_within above o) ≡ Ok n → IsTrue (is_within below above n)
plus_fits_at below above None n h = absurd cc
plus_fits_at below above (Some m) n h = nonnegative_fits below above m (nat_le m above) n refl h

minus_fits : (below above : ℕ) (text : List ℕ) (n : Number) → minus_within below text ≡ Ok n → IsTrue (is_within below above n)
unfolding minus_within
minus_fits below above text n h = minus_fits_at below above (natural text) n h

plus_fits : (below above : ℕ) (text : List ℕ) (n : Number) → plus_within above text ≡ Ok n → IsTrue (is_within below above n)
unfolding plus_within
plus_fits below above text n h = plus_fits_at below above (natural text) n h

either_fits : (below above : ℕ) (b : Bool) (x y : Result Number AsmFault) (n : Number) → (x ≡ Ok n → IsTrue (is_within below above n)) → (y ≡ Ok n → IsTrue (is_within below above n)) → cond b x y ≡ Ok n → IsTrue (is_within below above n)
either_fits below above true x y n f g h = f h
either_fits below above false x y n f g h = g h

pub plain_fits : (below above : ℕ) (text : List ℕ) (n : Number) → plain_within below above text ≡ Ok n → IsTrue (is_within below above n)
unfolding plain_within
plain_fits below above text n h = either_fits below above _ _ _ n (minus_fits below above (drop 1 text) n) (plus_fits below above text n) h

refused_fits : (below above : ℕ) (f : AsmFault) (n : Number) (r : Result Number AsmFault) → r ≡ Err f → r ≡ Ok n → IsTrue (is_within below above n)
refused_fits below above f n r e h = absurd (cc)

pub signed_fits : (below above : ℕ) (text : List ℕ) (n : Number) → signed_within below above text ≡ Ok n → IsTrue (is_within below above n)
unfolding signed_within
signed_fits below above text n h =
    let later : cond (slice_index text 0 == 43) (plus_within above (drop 1 text)) (Err Operand) ≡ Ok n → IsTrue (is_within below above n) =
    λ k. either_fits below above (slice_index text 0 == 43) (plus_within above (drop 1 text)) (Err Operand) n (plus_fits below above (drop 1 text) n) (refused_fits below above Operand n (Err Operand) refl) k
    in
    either_fits below above (slice_index text 0 == 45) (minus_within below (drop 1 text)) (cond (slice_index text 0 == 43) (plus_within above (drop 1 text)) (Err Operand)) n (minus_fits below above (drop 1 text) n) later h

within_bound : (most m : ℕ) (b : Bool) → IsTrue (cond b (nat_le m 0) (nat_le m most)) → m ≤ most
within_bound most m true h = grind (arith, nat_tests)
within_bound most m false h = grind (arith, nat_tests)

pub unsigned_fits : (most : ℕ) (text : List ℕ) (n : Number) → plain_within 0 most text ≡ Ok n → n.magnitude ≤ most
unsigned_fits most text n h = within_bound most n.magnitude n.negative (plain_fits 0 most text n h)
