-- What a fact leaves of two unsigned ranges [a, b] and [c, d]: their ends after.
use Rattle.std.specs.Prelude.{ℕ, ◌+◌, ◌-◌, ◌==◌, ◌||◌, min, max, nat_lt, Bool, if◌then◌else◌}
use Rattle.abstract_num.specs.declared.fact.Fact.{Fact}
use Rattle.abstract_num.specs.declared.fact.Fact.TheVariants.{Same, Above, AtLeast, SignedAbove, SignedAtLeast}
use Rattle.abstract_num.specs.declared.fact.Fact.TheVariants.{HalfAbove, HalfAtLeast, Meets, Not, NoneOf}

-- the ends of the first, and of the second
abbrev pub TwoRanges : Type 0
TwoRanges = (ℕ × ℕ) × (ℕ × ℕ)

-- 1 if an end is c, which moves it by one
abbrev pub if_at : ℕ → ℕ → ℕ
if_at end c = (if end == c then 1 else 0)

-- what is left; a fact that says nothing of unsigned numbers leaves both as they were
abbrev pub unsigned_fact : Fact → ℕ → ℕ → ℕ → ℕ → TwoRanges
unsigned_fact Same a b c d = ((max a c, min b d), (max a c, min b d))
unsigned_fact Above a b c d = ((max a (c + 1), b), (c, min d (b - 1)))
unsigned_fact AtLeast a b c d = ((max a c, b), (c, min d b))
unsigned_fact (Not k) a b c d = ((a + if_at a k, b - if_at b k), (c, d))
unsigned_fact SignedAbove a b c d = ((a, b), (c, d))
unsigned_fact SignedAtLeast a b c d = ((a, b), (c, d))
unsigned_fact HalfAbove a b c d = ((a, b), (c, d))
unsigned_fact HalfAtLeast a b c d = ((a, b), (c, d))
unsigned_fact Meets a b c d = ((a, b), (c, d))
unsigned_fact (NoneOf k) a b c d = ((a, b), (c, d))

-- nothing is left of a range whose ends cross
abbrev pub crosses : TwoRanges → Bool
crosses e = nat_lt e.0.1 e.0.0 || nat_lt e.1.1 e.1.0
