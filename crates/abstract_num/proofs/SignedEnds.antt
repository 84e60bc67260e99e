-- Ends of signed ranges stay in order.
use Rattle.std.proofs.Common.{arith, ℤ, ◌+ℤ◌, ◌-ℤ◌, ◌≤ℤ◌}
use Rattle.std.proofs.lemmas.Int.{ints}

pub sum_ordered : (a b p q : ℤ) → a ≤ℤ b → p ≤ℤ q → (a +ℤ p) ≤ℤ (b +ℤ q)
sum_ordered a b p q h k = omega (arith, ints)

pub difference_ordered : (a b p q : ℤ) → a ≤ℤ b → p ≤ℤ q → (a -ℤ q) ≤ℤ (b -ℤ p)
difference_ordered a b p q h k = omega (arith, ints)
