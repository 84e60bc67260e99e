-- Proved; nothing here need be believed.
-- The signed parts keep every number of which the fact holds.
use Rattle.std.specs.Prelude.{ℕ, ℤ, pos, ◌+ℤ◌, ◌-ℤ◌, ◌≤ℤ◌, ◌<ℤ◌, ◌^◌, ◌<◌, ◌≡◌, ◌≢◌, ◌&&◌, int_le, int_lt, true, false}
use Rattle.std.specs.Prelude.{Option, Some, None, IsSomeAnd}
use Rattle.std.specs.Int.{int_min, int_max, w64, cast_unsigned}
use Rattle.std.proofs.Common.{sym, ap, ◌∙◌, arith}
use Rattle.std.proofs.lemmas.Int.{ints, clamps, of_z-to_z, by_lt_z}
use Rattle.abstract_num.specs.proved.Cases.{cond_both, and_first, and_second, or_true, or_false}
use Rattle.abstract_num.specs.Meaning.{IsFact}
use Rattle.abstract_num.specs.Parts.{InSRange}
use Rattle.abstract_num.specs.Refined.{IsRefined}
use Rattle.abstract_num.specs.Signed.{signed}
use Rattle.abstract_num.specs.SignedFacts.{TwoSigned, if_at, signed_fact, crosses}
use Rattle.abstract_num.specs.proved.SignedRows.{SignedBetween, IsReach}
use Rattle.abstract_num.specs.declared.fact.Fact.{Fact}
use Rattle.abstract_num.specs.declared.fact.Fact.TheVariants.{Same, Above, AtLeast, SignedAbove, SignedAtLeast}
use Rattle.abstract_num.specs.declared.fact.Fact.TheVariants.{HalfAbove, HalfAtLeast, Meets, Not, NoneOf}
use Rattle.abstract_num.specs.declared.srange.SRange.{SRange}

abbrev pub AreReaches : TwoSigned → SRange × SRange → Type 0
AreReaches e s = IsReach s.0 e.0 × IsReach s.1 e.1

abbrev pub SRangeRefines : Fact → SRange → SRange → Option (SRange × SRange) → Type 0
SRangeRefines f x y r =
    let e = signed_fact f x.low x.high y.low y.high in
    IsRefined (crosses e) (AreReaches e) r

most : (p q z : ℤ) → p ≤ℤ z → q ≤ℤ z → int_max p q ≤ℤ z
most p q z a b = omega (arith, ints, clamps)

least : (p q z : ℤ) → z ≤ℤ p → z ≤ℤ q → z ≤ℤ int_min p q
least p q z a b = omega (arith, ints, clamps)

step_up : (p z y : ℤ) → p ≤ℤ z → z <ℤ y → (p +ℤ pos 1) ≤ℤ y
step_up p z y a b = omega (arith, ints)

step_down : (q z y : ℤ) → y ≤ℤ q → z <ℤ y → z ≤ℤ (q -ℤ pos 1)
step_down q z y a b = omega (arith, ints)

through : (a b c : ℤ) → a ≤ℤ b → b ≤ℤ c → a ≤ℤ c
through a b c p q = omega (arith, ints)

le_first : (a b : ℤ) → int_le a b ≡ true → a ≤ℤ b
le_first a b e = grind (arith, ints)

same_z : (a b : ℤ) → a ≤ℤ b → b ≤ℤ a → a ≡ b
same_z a b p q = omega (arith, ints)

step_over : (p z : ℤ) → p <ℤ z → (p +ℤ pos 1) ≤ℤ z
step_over p z h = omega (arith, ints)

step_under : (p z : ℤ) → z <ℤ p → z ≤ℤ (p -ℤ pos 1)
step_under p z h = omega (arith, ints)

add_nothing : (p z : ℤ) → p ≤ℤ z → (p +ℤ pos 0) ≤ℤ z
add_nothing p z h = omega (arith, ints)

sub_nothing : (p z : ℤ) → z ≤ℤ p → z ≤ℤ (p -ℤ pos 0)
sub_nothing p z h = omega (arith, ints)

not_low : (p z k : ℤ) → p ≤ℤ z → (z ≡ k → ⊥) → (p +ℤ if_at p k) ≤ℤ z
not_low p z k h l =
    cond_both (λ (v : ℤ). (p +ℤ v) ≤ℤ z) (int_le p k && int_le k p) (pos 1) (pos 0)
    (λ e. let s : p ≡ k = same_z p k (le_first p k (and_first _ _ e)) (le_first k p (and_second _ _ e)) in
    by_lt_z p z (λ g. step_over p z g) (λ g. absurd (l (same_z z p g h ∙ s))))
    (λ e. add_nothing p z h)

not_high : (p z k : ℤ) → z ≤ℤ p → (z ≡ k → ⊥) → z ≤ℤ (p -ℤ if_at p k)
not_high p z k h l =
    cond_both (λ (v : ℤ). z ≤ℤ (p -ℤ v)) (int_le p k && int_le k p) (pos 1) (pos 0)
    (λ e. let s : p ≡ k = same_z p k (le_first p k (and_first _ _ e)) (le_first k p (and_second _ _ e)) in
    by_lt_z z p (λ g. step_under p z g) (λ g. absurd (l (same_z z p h g ∙ s))))
    (λ e. sub_nothing p z h)

-- numbers below 2 ^ 64 that are the same as signed ones are the same
signed_apart : (n c : ℕ) → n < 2 ^ 64 → c < 2 ^ 64 → n ≢ c → signed n ≡ signed c → ⊥
signed_apart n c p q l e = l (sym (of_z-to_z w64 n p) ∙ ap (λ z. cast_unsigned w64 z) e ∙ of_z-to_z w64 c q)

pub signed_fact_keeps : (f : Fact) (p q r s : ℤ) (m n : ℕ)
    → p ≤ℤ signed m → signed m ≤ℤ q → r ≤ℤ signed n → signed n ≤ℤ s → m < 2 ^ 64 → IsFact f m n
    → SignedBetween (signed_fact f p q r s).0 m × SignedBetween (signed_fact f p q r s).1 n
signed_fact_keeps Same p q r s m n a b c d l h =
    let e : signed m ≡ signed n = ap (λ k. signed k) h in (
      (most p r (signed m) a (rw e c), least q s (signed m) b (rw e d)),
      (most p r (signed n) (rw (sym e) a) c, least q s (signed n) (rw (sym e) b) d),
    )
signed_fact_keeps SignedAbove p q r s m n a b c d l h = (
  (most _ _ _ a (step_up r (signed n) (signed m) c h), b),
  (c, least _ _ _ d (step_down q (signed n) (signed m) b h)),
)
signed_fact_keeps SignedAtLeast p q r s m n a b c d l h =
    ((most _ _ _ a (through r (signed n) (signed m) c h), b), (c, least _ _ _ d (through (signed n) (signed m) q h b)))
signed_fact_keeps (Not k) p q r s m n a b c d l h =
    let apart = signed_apart m k l h.1 h.0 in
    ((not_low p (signed m) (signed k) a apart, not_high q (signed m) (signed k) b apart), (c, d))
signed_fact_keeps Above p q r s m n a b c d l h = ((a, b), (c, d))
signed_fact_keeps AtLeast p q r s m n a b c d l h = ((a, b), (c, d))
signed_fact_keeps HalfAbove p q r s m n a b c d l h = ((a, b), (c, d))
signed_fact_keeps HalfAtLeast p q r s m n a b c d l h = ((a, b), (c, d))
signed_fact_keeps Meets p q r s m n a b c d l h = ((a, b), (c, d))
signed_fact_keeps (NoneOf k) p q r s m n a b c d l h = ((a, b), (c, d))

in_order : (p q z : ℤ) → p ≤ℤ z → z ≤ℤ q → int_lt q p ≡ false
in_order p q z a b = grind (arith, ints)

pub not_crossed : (e : TwoSigned) (m n : ℕ) → SignedBetween e.0 m → SignedBetween e.1 n → crosses e ≡ false
not_crossed e m n p q = or_false _ _ (in_order e.0.0 e.0.1 (signed m) p.0 p.1) (in_order e.1.0 e.1.1 (signed n) q.0 q.1)

in_reach : (z : SRange) (e : ℤ × ℤ) (n : ℕ) → IsReach z e → SignedBetween e n → n < 2 ^ 64 → InSRange z n
in_reach z e n s i f = (rw s.0 i.0, rw s.1 i.1, f)

pub srange_refines_sound : (f : Fact) (x y : SRange) (r : Option (SRange × SRange)) → SRangeRefines f x y r
    → (m n : ℕ) → InSRange x m → InSRange y n → IsFact f m n → IsSomeAnd r (λ s. InSRange s.0 m × InSRange s.1 n)
srange_refines_sound f x y None c m n p q h =
    let i = signed_fact_keeps f x.low x.high y.low y.high m n p.0 p.1 q.0 q.1 p.2 h in
    let j = not_crossed (signed_fact f x.low x.high y.low y.high) m n i.0 i.1 in cc
srange_refines_sound f x y (Some s) c m n p q h =
    let i = signed_fact_keeps f x.low x.high y.low y.high m n p.0 p.1 q.0 q.1 p.2 h in
    (in_reach s.0 _ m c.1.0 i.0 p.2, in_reach s.1 _ n c.1.1 i.1 q.2)

lt_yes : (a b : ℤ) → a <ℤ b → int_lt a b ≡ true
lt_yes a b h = grind (arith, ints)

past_end : (p q r : ℤ) → q ≤ℤ r → q <ℤ int_max p (r +ℤ pos 1)
past_end p q r h = omega (arith, ints, clamps)

-- no number of the first range is above one of the second
pub above_crosses : (p q r s : ℤ) → q ≤ℤ r → crosses (signed_fact SignedAbove p q r s) ≡ true
above_crosses p q r s h = or_true _ _ (lt_yes q (int_max p (r +ℤ pos 1)) (past_end p q r h))

alone : (p k : ℤ) → p ≡ k → if_at p k ≡ pos 1
alone p k e = grind (arith, ints)

past_one : (p : ℤ) → (p -ℤ pos 1) <ℤ (p +ℤ pos 1)
past_one p = omega (arith, ints)

-- a range of c alone
pub alone_crosses : (p q r s : ℤ) (c : ℕ) → p ≡ q → p ≡ signed c → crosses (signed_fact (Not c) p q r s) ≡ true
alone_crosses p q r s c e f =
    let h : (q -ℤ if_at q (signed c)) <ℤ (p +ℤ if_at p (signed c)) =
    rw (← e) (rw (alone p (signed c) f) (past_one p)) in
    or_true _ _ (lt_yes _ _ h)
