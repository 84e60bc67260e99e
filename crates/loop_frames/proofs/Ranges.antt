-- A range whose ends are out of order has no number.
use Rattle.std.proofs.Common.{◌≡◌, ℕ, ℤ, ◌<◌, None, true, ap, arith}
use Rattle.std.specs.Prelude.{◌<ℤ◌, int_lt, option_and_then, min, max}
use Rattle.std.proofs.lemmas.Bool.{lt-ltb, cond-true}
use Rattle.std.proofs.lemmas.Int.{ints}
use Rattle.abstract_num.specs.declared.precision.Precision.{Precision}
use Rattle.abstract_num.specs.declared.precision.Precision.TheVariants.{Whole, Halves}
use Rattle.abstract_num.specs.Tighten.{tighten, tighten_whole, tighten_again, by_half, half_of_constant}
use Rattle.abstract_num.specs.Transfer.{ranged, signed_ranged}

crossed : (low high a b : ℕ) → high < low → min high a < max low b
crossed low high a b h = omega arith

whole_none : (low high : ℕ) → high < low → tighten_whole (ranged low high) ≡ None
unfolding tighten_whole
whole_none low high h = cond-true _ None _ (lt-ltb _ _ (crossed low high _ _ h))

pub range_none : (precision : Precision) (low high : ℕ) → high < low → tighten precision (ranged low high) ≡ None
range_none Whole low high h = whole_none low high h
range_none Halves low high h = ap (λ o. option_and_then half_of_constant (option_and_then (λ y. tighten_again y (by_half y)) o)) (whole_none low high h)

int_crossed : (a b : ℤ) → b <ℤ a → int_lt b a ≡ true
int_crossed a b h = grind (arith, ints)

signed_whole_none : (low high : ℤ) → high <ℤ low → tighten_whole (signed_ranged low high) ≡ None
unfolding tighten_whole
signed_whole_none low high h = cond-true (int_lt high low) None _ (int_crossed low high h)

pub signed_range_none : (precision : Precision) (low high : ℤ) → high <ℤ low → tighten precision (signed_ranged low high) ≡ None
signed_range_none Whole low high h = signed_whole_none low high h
signed_range_none Halves low high h = ap (λ o. option_and_then half_of_constant (option_and_then (λ y. tighten_again y (by_half y)) o)) (signed_whole_none low high h)
