-- What a fact leaves of known bits (v1, m1) and (v2, m2): value and unknown after.
use Rattle.std.specs.Prelude.{ℕ, ◌==◌, not, Bool, false, bit_and, bit_or, bit_xor}
use Rattle.abstract_num.specs.Masks.{clear}
use Rattle.abstract_num.specs.declared.fact.Fact.{Fact}
use Rattle.abstract_num.specs.declared.fact.Fact.TheVariants.{Same, Above, AtLeast, SignedAbove, SignedAtLeast}
use Rattle.abstract_num.specs.declared.fact.Fact.TheVariants.{HalfAbove, HalfAtLeast, Meets, Not, NoneOf}

-- value and unknown of the first, and of the second
abbrev pub TwoMasks : Type 0
TwoMasks = (ℕ × ℕ) × (ℕ × ℕ)

-- what is left; a fact that says nothing of bits leaves both as they were
abbrev pub bits_fact : Fact → ℕ → ℕ → ℕ → ℕ → TwoMasks
bits_fact Same v1 m1 v2 m2 = ((bit_or v1 v2, bit_and m1 m2), (bit_or v1 v2, bit_and m1 m2))
bits_fact (NoneOf k) v1 m1 v2 m2 = ((v1, clear m1 k), (v2, m2))
bits_fact Above v1 m1 v2 m2 = ((v1, m1), (v2, m2))
bits_fact AtLeast v1 m1 v2 m2 = ((v1, m1), (v2, m2))
bits_fact SignedAbove v1 m1 v2 m2 = ((v1, m1), (v2, m2))
bits_fact SignedAtLeast v1 m1 v2 m2 = ((v1, m1), (v2, m2))
bits_fact HalfAbove v1 m1 v2 m2 = ((v1, m1), (v2, m2))
bits_fact HalfAtLeast v1 m1 v2 m2 = ((v1, m1), (v2, m2))
bits_fact Meets v1 m1 v2 m2 = ((v1, m1), (v2, m2))
bits_fact (Not k) v1 m1 v2 m2 = ((v1, m1), (v2, m2))

-- the bits that both know, and differently
abbrev pub conflict : ℕ → ℕ → ℕ → ℕ → ℕ
conflict v1 m1 v2 m2 = clear (clear (bit_xor v1 v2) m1) m2

-- the bits that both may have
abbrev pub common : ℕ → ℕ → ℕ → ℕ → ℕ
common v1 m1 v2 m2 = bit_and (bit_or v1 m1) (bit_or v2 m2)

-- the fact can't be: a conflict, no bit that both may have, or a bit that is known one
abbrev pub denied : Fact → ℕ → ℕ → ℕ → ℕ → Bool
denied Same v1 m1 v2 m2 = not (conflict v1 m1 v2 m2 == 0)
denied Meets v1 m1 v2 m2 = common v1 m1 v2 m2 == 0
denied (NoneOf k) v1 m1 v2 m2 = not (bit_and v1 k == 0)
denied Above v1 m1 v2 m2 = false
denied AtLeast v1 m1 v2 m2 = false
denied SignedAbove v1 m1 v2 m2 = false
denied SignedAtLeast v1 m1 v2 m2 = false
denied HalfAbove v1 m1 v2 m2 = false
denied HalfAtLeast v1 m1 v2 m2 = false
denied (Not k) v1 m1 v2 m2 = false
