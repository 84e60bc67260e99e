-- What a fact leaves of two signed ranges [p, q] and [r, s]: their ends after.
use Rattle.std.specs.Prelude.{ℤ, pos, ◌+ℤ◌, ◌-ℤ◌, int_le, int_lt, ◌&&◌, ◌||◌, Bool, if◌then◌else◌}
use Rattle.std.specs.Int.{int_min, int_max}
use Rattle.abstract_num.specs.Signed.{signed}
use Rattle.abstract_num.specs.declared.fact.Fact.{Fact}
use Rattle.abstract_num.specs.declared.fact.Fact.TheVariants.{Same, Above, AtLeast, SignedAbove, SignedAtLeast}
use Rattle.abstract_num.specs.declared.fact.Fact.TheVariants.{HalfAbove, HalfAtLeast, Meets, Not, NoneOf}

-- the ends of the first, and of the second
abbrev pub TwoSigned : Type 0
TwoSigned = (ℤ × ℤ) × (ℤ × ℤ)

-- 1 if an end is c, which moves it by one
abbrev pub if_at : ℤ → ℤ → ℤ
if_at end c = (if int_le end c && int_le c end then pos 1 else pos 0)

-- what is left; a fact that says nothing of signed numbers leaves both as they were
abbrev pub signed_fact : Fact → ℤ → ℤ → ℤ → ℤ → TwoSigned
signed_fact Same p q r s = ((int_max p r, int_min q s), (int_max p r, int_min q s))
signed_fact SignedAbove p q r s = ((int_max p (r +ℤ pos 1), q), (r, int_min s (q -ℤ pos 1)))
signed_fact SignedAtLeast p q r s = ((int_max p r, q), (r, int_min s q))
signed_fact (Not k) p q r s = ((p +ℤ if_at p (signed k), q -ℤ if_at q (signed k)), (r, s))
signed_fact Above p q r s = ((p, q), (r, s))
signed_fact AtLeast p q r s = ((p, q), (r, s))
signed_fact HalfAbove p q r s = ((p, q), (r, s))
signed_fact HalfAtLeast p q r s = ((p, q), (r, s))
signed_fact Meets p q r s = ((p, q), (r, s))
signed_fact (NoneOf k) p q r s = ((p, q), (r, s))

-- nothing is left of a range whose ends cross
abbrev pub crosses : TwoSigned → Bool
crosses e = int_lt e.0.1 e.0.0 || int_lt e.1.1 e.1.0
