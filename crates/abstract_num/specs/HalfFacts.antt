-- What a fact leaves of two halves [h, k] and [i, j]: their ends after.
use Rattle.std.specs.Prelude.{ℤ, pos, ◌+ℤ◌, ◌-ℤ◌, int_lt, ◌||◌, Bool}
use Rattle.std.specs.Int.{int_min, int_max}
use Rattle.abstract_num.specs.declared.fact.Fact.{Fact}
use Rattle.abstract_num.specs.declared.fact.Fact.TheVariants.{Same, Above, AtLeast, SignedAbove, SignedAtLeast}
use Rattle.abstract_num.specs.declared.fact.Fact.TheVariants.{HalfAbove, HalfAtLeast, Meets, Not, NoneOf}

-- the ends of the first, and of the second
abbrev pub TwoHalves : Type 0
TwoHalves = (ℤ × ℤ) × (ℤ × ℤ)

-- what is left; a fact that says nothing of halves leaves both as they were
abbrev pub half_fact : Fact → ℤ → ℤ → ℤ → ℤ → TwoHalves
half_fact Same h k i j = ((int_max h i, int_min k j), (int_max h i, int_min k j))
half_fact HalfAbove h k i j = ((int_max h (i +ℤ pos 1), k), (i, int_min j (k -ℤ pos 1)))
half_fact HalfAtLeast h k i j = ((int_max h i, k), (i, int_min j k))
half_fact Above h k i j = ((h, k), (i, j))
half_fact AtLeast h k i j = ((h, k), (i, j))
half_fact SignedAbove h k i j = ((h, k), (i, j))
half_fact SignedAtLeast h k i j = ((h, k), (i, j))
half_fact Meets h k i j = ((h, k), (i, j))
half_fact (Not n) h k i j = ((h, k), (i, j))
half_fact (NoneOf n) h k i j = ((h, k), (i, j))

-- nothing is left of a half whose ends cross
abbrev pub crosses : TwoHalves → Bool
crosses e = int_lt e.0.1 e.0.0 || int_lt e.1.1 e.1.0
