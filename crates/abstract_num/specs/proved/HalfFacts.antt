-- Proved; nothing here need be believed.
-- The halves keep every number of which the fact holds.
use Rattle.std.specs.Prelude.{ℕ, ℤ, pos, ◌+ℤ◌, ◌-ℤ◌, ◌≤ℤ◌, ◌<ℤ◌, ◌^◌, ◌<◌, ◌≡◌, int_lt, false, Option, Some, None}
use Rattle.std.specs.Prelude.{IsSomeAnd}
use Rattle.std.specs.Int.{int_min, int_max}
use Rattle.std.proofs.Common.{sym, ap, arith}
use Rattle.std.proofs.lemmas.Int.{ints, clamps}
use Rattle.abstract_num.specs.proved.Cases.{or_false}
use Rattle.abstract_num.specs.Meaning.{IsFact}
use Rattle.abstract_num.specs.Parts.{InHalf}
use Rattle.abstract_num.specs.Refined.{IsRefined}
use Rattle.abstract_num.specs.Signed.{signed_half}
use Rattle.abstract_num.specs.HalfFacts.{TwoHalves, half_fact, crosses}
use Rattle.abstract_num.specs.proved.HalfRows.{HalfBetween, IsHalf}
use Rattle.abstract_num.specs.declared.fact.Fact.{Fact}
use Rattle.abstract_num.specs.declared.fact.Fact.TheVariants.{Same, Above, AtLeast, SignedAbove, SignedAtLeast}
use Rattle.abstract_num.specs.declared.fact.Fact.TheVariants.{HalfAbove, HalfAtLeast, Meets, Not, NoneOf}
use Rattle.abstract_num.specs.declared.half.Half.{Half}

abbrev pub AreHalves : TwoHalves → Half × Half → Type 0
AreHalves e s = IsHalf s.0 e.0 × IsHalf s.1 e.1

abbrev pub HalfRefines : Fact → Half → Half → Option (Half × Half) → Type 0
HalfRefines f x y r =
    let e = half_fact f x.low x.high y.low y.high in
    IsRefined (crosses e) (AreHalves e) r

most : (p q z : ℤ) → p ≤ℤ z → q ≤ℤ z → int_max p q ≤ℤ z
most p q z a b = omega (arith, ints, clamps)

least : (p q z : ℤ) → z ≤ℤ p → z ≤ℤ q → z ≤ℤ int_min p q
least p q z a b = omega (arith, ints, clamps)

step_up : (p z y : ℤ) → p ≤ℤ z → z <ℤ y → (p +ℤ pos 1) ≤ℤ y
step_up p z y a b = omega (arith, ints)

step_down : (q z y : ℤ) → y ≤ℤ q → z <ℤ y → z ≤ℤ (q -ℤ pos 1)
step_down q z y a b = omega (arith, ints)

through : (a b c : ℤ) → a ≤ℤ b → b ≤ℤ c → a ≤ℤ c
through a b c p q = omega (arith, ints)

pub half_fact_keeps : (f : Fact) (h k i j : ℤ) (m n : ℕ)
    → h ≤ℤ signed_half m → signed_half m ≤ℤ k → i ≤ℤ signed_half n → signed_half n ≤ℤ j → IsFact f m n
    → HalfBetween (half_fact f h k i j).0 m × HalfBetween (half_fact f h k i j).1 n
half_fact_keeps Same p q r s m n a b c d h =
    let e : signed_half m ≡ signed_half n = ap (λ k. signed_half k) h in (
      (most p r (signed_half m) a (rw e c), least q s (signed_half m) b (rw e d)),
      (most p r (signed_half n) (rw (sym e) a) c, least q s (signed_half n) (rw (sym e) b) d),
    )
half_fact_keeps HalfAbove p q r s m n a b c d h = (
  (most _ _ _ a (step_up r (signed_half n) (signed_half m) c h), b),
  (c, least _ _ _ d (step_down q (signed_half n) (signed_half m) b h)),
)
half_fact_keeps HalfAtLeast p q r s m n a b c d h = (
  (most _ _ _ a (through r (signed_half n) (signed_half m) c h), b),
  (c, least _ _ _ d (through (signed_half n) (signed_half m) q h b)),
)
half_fact_keeps Above p q r s m n a b c d h = ((a, b), (c, d))
half_fact_keeps AtLeast p q r s m n a b c d h = ((a, b), (c, d))
half_fact_keeps SignedAbove p q r s m n a b c d h = ((a, b), (c, d))
half_fact_keeps SignedAtLeast p q r s m n a b c d h = ((a, b), (c, d))
half_fact_keeps Meets p q r s m n a b c d h = ((a, b), (c, d))
half_fact_keeps (Not k) p q r s m n a b c d h = ((a, b), (c, d))
half_fact_keeps (NoneOf k) p q r s m n a b c d h = ((a, b), (c, d))

in_order : (p q z : ℤ) → p ≤ℤ z → z ≤ℤ q → int_lt q p ≡ false
in_order p q z a b = grind (arith, ints)

pub not_crossed : (e : TwoHalves) (m n : ℕ) → HalfBetween e.0 m → HalfBetween e.1 n → crosses e ≡ false
not_crossed e m n p q =
    or_false _ _ (in_order e.0.0 e.0.1 (signed_half m) p.0 p.1) (in_order e.1.0 e.1.1 (signed_half n) q.0 q.1)

in_half : (z : Half) (e : ℤ × ℤ) (n : ℕ) → IsHalf z e → HalfBetween e n → n < 2 ^ 64 → InHalf z n
in_half z e n s i f = (rw s.0 i.0, rw s.1 i.1, f)

pub half_refines_sound : (f : Fact) (x y : Half) (r : Option (Half × Half)) → HalfRefines f x y r
    → (m n : ℕ) → InHalf x m → InHalf y n → IsFact f m n → IsSomeAnd r (λ s. InHalf s.0 m × InHalf s.1 n)
half_refines_sound f x y None c m n p q h =
    let i = half_fact_keeps f x.low x.high y.low y.high m n p.0 p.1 q.0 q.1 h in
    let j = not_crossed (half_fact f x.low x.high y.low y.high) m n i.0 i.1 in cc
half_refines_sound f x y (Some s) c m n p q h =
    let i = half_fact_keeps f x.low x.high y.low y.high m n p.0 p.1 q.0 q.1 h in
    (in_half s.0 _ m c.1.0 i.0 p.2, in_half s.1 _ n c.1.1 i.1 q.2)
