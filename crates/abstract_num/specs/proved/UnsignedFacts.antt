-- Proved; nothing here need be believed.
-- The unsigned parts keep every number of which the fact holds.
use Rattle.std.specs.Prelude.{ℕ, ◌+◌, ◌-◌, ◌^◌, ◌<◌, ◌≤◌, ◌≡◌, ◌≢◌, nat_lt, false, Option, Some, None, IsSomeAnd}
use Rattle.std.proofs.Common.{arith}
use Rattle.abstract_num.specs.proved.Cases.{or_false}
use Rattle.abstract_num.specs.Meaning.{IsFact}
use Rattle.abstract_num.specs.Parts.{InURange}
use Rattle.abstract_num.specs.Refined.{IsRefined}
use Rattle.abstract_num.specs.UnsignedFacts.{TwoRanges, if_at, unsigned_fact, crosses}
use Rattle.abstract_num.specs.proved.UnsignedRows.{Between, IsSpan}
use Rattle.abstract_num.specs.declared.fact.Fact.{Fact}
use Rattle.abstract_num.specs.declared.fact.Fact.TheVariants.{Same, Above, AtLeast, SignedAbove, SignedAtLeast}
use Rattle.abstract_num.specs.declared.fact.Fact.TheVariants.{HalfAbove, HalfAtLeast, Meets, Not, NoneOf}
use Rattle.abstract_num.specs.declared.urange.URange.{URange}

abbrev pub AreSpans : TwoRanges → URange × URange → Type 0
AreSpans e s = IsSpan s.0 e.0 × IsSpan s.1 e.1

abbrev pub URangeRefines : Fact → URange → URange → Option (URange × URange) → Type 0
URangeRefines f x y r =
    let e = unsigned_fact f x.low x.high y.low y.high in
    IsRefined (crosses e) (AreSpans e) r

not_low : (a c n : ℕ) → a ≤ n → n ≢ c → a + if_at a c ≤ n
not_low a c n p q = grind arith

not_high : (b c n : ℕ) → n ≤ b → n ≢ c → n ≤ b - if_at b c
not_high b c n p q = grind arith

pub unsigned_fact_keeps : (f : Fact) (a b c d m n : ℕ) → a ≤ m → m ≤ b → c ≤ n → n ≤ d → IsFact f m n
    → Between (unsigned_fact f a b c d).0 m × Between (unsigned_fact f a b c d).1 n
unsigned_fact_keeps Same a b c d m n p q r s h = ((omega arith, omega arith), (omega arith, omega arith))
unsigned_fact_keeps Above a b c d m n p q r s h = ((omega arith, omega arith), (omega arith, omega arith))
unsigned_fact_keeps AtLeast a b c d m n p q r s h = ((omega arith, omega arith), (omega arith, omega arith))
unsigned_fact_keeps (Not k) a b c d m n p q r s h = ((not_low a k m p h.0, not_high b k m q h.0), (r, s))
unsigned_fact_keeps SignedAbove a b c d m n p q r s h = ((p, q), (r, s))
unsigned_fact_keeps SignedAtLeast a b c d m n p q r s h = ((p, q), (r, s))
unsigned_fact_keeps HalfAbove a b c d m n p q r s h = ((p, q), (r, s))
unsigned_fact_keeps HalfAtLeast a b c d m n p q r s h = ((p, q), (r, s))
unsigned_fact_keeps Meets a b c d m n p q r s h = ((p, q), (r, s))
unsigned_fact_keeps (NoneOf k) a b c d m n p q r s h = ((p, q), (r, s))

in_order : (a b n : ℕ) → a ≤ n → n ≤ b → nat_lt b a ≡ false
in_order a b n p q = grind arith

pub not_crossed : (e : TwoRanges) (m n : ℕ) → Between e.0 m → Between e.1 n → crosses e ≡ false
not_crossed e m n p q = or_false _ _ (in_order e.0.0 e.0.1 m p.0 p.1) (in_order e.1.0 e.1.1 n q.0 q.1)

in_span : (z : URange) (e : ℕ × ℕ) (n : ℕ) → IsSpan z e → Between e n → n < 2 ^ 64 → InURange z n
in_span z e n s i f = (rw s.0 i.0, rw s.1 i.1, f)

pub urange_refines_sound : (f : Fact) (x y : URange) (r : Option (URange × URange)) → URangeRefines f x y r
    → (m n : ℕ) → InURange x m → InURange y n → IsFact f m n → IsSomeAnd r (λ s. InURange s.0 m × InURange s.1 n)
urange_refines_sound f x y None c m n p q h =
    let i = unsigned_fact_keeps f x.low x.high y.low y.high m n p.0 p.1 q.0 q.1 h in
    let j = not_crossed (unsigned_fact f x.low x.high y.low y.high) m n i.0 i.1 in cc
urange_refines_sound f x y (Some s) c m n p q h =
    let i = unsigned_fact_keeps f x.low x.high y.low y.high m n p.0 p.1 q.0 q.1 h in
    (in_span s.0 _ m c.1.0 i.0 p.2, in_span s.1 _ n c.1.1 i.1 q.2)
