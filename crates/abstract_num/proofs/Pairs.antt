-- What an edge leaves of two numbers keeps each pair for which the comparison goes that way.
use Rattle.std.proofs.Common.{◌≡◌, ℕ, ◌%◌, ◌^◌, ◌<◌, ◌≤◌, Bool, true, false, Option, Some, None, ap, sym, subst, ◌∙◌, refl, arith, ⊎_elim, inl, inr}
use Rattle.std.specs.Prelude.{ℤ, ◌<ℤ◌, ◌≤ℤ◌, ◌≢◌, ◌||◌, ◌⊎◌, nat_lt, bit_and, IsSomeAnd, option_map, option_and_then}
use Rattle.std.specs.Int.{w32, w64, cast_signed}
use lib.Signed.{lt_z, le_z}
use mathlib.Core.Path.{ap₂}
use Rattle.std.proofs.lemmas.Int.{ints}
use Rattle.bpf_decode.specs.Arithmetic.{compared, is_taken}
use Rattle.bpf_decode.specs.declared.operation.OpWidth.{OpWidth}
use Rattle.bpf_decode.specs.declared.operation.OpWidth.TheVariants.{Bits32, Bits64}
use Rattle.bpf_decode.specs.declared.operation.Comparison.{Comparison}
use Rattle.bpf_decode.specs.declared.operation.Comparison.TheVariants as is
use Rattle.abstract_num.specs.Both.{BothRefine}
use Rattle.abstract_num.specs.proved.Cases.{cond_both, and_first, and_second, or_false}
use Rattle.abstract_num.specs.Meaning.{IsFact}
use Rattle.abstract_num.specs.UnsignedFacts.{unsigned_fact, crosses}
use Rattle.abstract_num.specs.SignedFacts.{signed_fact, crosses as signs_cross}
use Rattle.abstract_num.specs.BitsFacts.{denied}
use Rattle.abstract_num.specs.proved.UnsignedFacts.{URangeRefines, unsigned_fact_keeps, not_crossed}
use Rattle.abstract_num.specs.proved.SignedFacts.{SRangeRefines, signed_fact_keeps, not_crossed as signs_not_crossed}
use Rattle.abstract_num.specs.proved.BitsFacts.{BitsRefine, bits_fact_keeps}
use Rattle.abstract_num.specs.HalfFacts.{half_fact, crosses as halves_cross}
use Rattle.abstract_num.specs.proved.HalfFacts.{HalfRefines, half_fact_keeps, not_crossed as halves_not_crossed}
use Rattle.abstract_num.specs.proved.HalfRows.{half_of_cut}
use Rattle.abstract_num.specs.Signed.{signed_half}
use Rattle.abstract_num.specs.declared.precision.Precision.{Precision}
use Rattle.abstract_num.specs.declared.precision.Precision.TheVariants.{Whole, Halves}
use Rattle.abstract_num.specs.Plain.{Plain, Number, Holds, GivesBoth, view}
use Rattle.abstract_num.specs.Tighten.{tighten, with_any_half}
use Rattle.abstract_num.specs.Transfer.{is_constant, cut}
use Rattle.abstract_num.specs.Edges.{Pair, edge_of, leaves_nothing, left_of, by_fact, turned, first_of, other_than, both, by_edge, short_end, tells, refined, tightened, half_edge, along_cuts, put_back, put_both_back, along}
use Rattle.abstract_num.specs.declared.fact.Fact.{Fact}
use Rattle.abstract_num.specs.declared.fact.Fact.TheVariants.{Not, NoneOf}
use Rattle.abstract_num.specs.declared.fact.Edge.{Edge}
use Rattle.abstract_num.specs.declared.fact.Edge.TheVariants.{Ahead, Turned, Apart, Disjoint}
use Rattle.abstract_num.proofs.Same.{plain_same}
use Rattle.abstract_num.proofs.Tight.{any_half_holds, tighten_sound}
use Rattle.abstract_num.proofs.Transfers.{only, cut_keeps}

abbrev pub KeptBoth : Option Pair → ℕ → ℕ → Type 0
KeptBoth o m n = IsSomeAnd o (λ s. Holds s.0 m × Holds s.1 n)

-- the code's answer keeps what the table's keeps
pub from_tables : (t : Option Pair) (r : Option (Number × Number)) (m n : ℕ) → GivesBoth t r → KeptBoth t m n → IsSomeAnd r (λ s. Holds (view s.0) m × Holds (view s.1) n)
from_tables t None m n g k = let h = subst (λ (o : Option Pair). KeptBoth o m n) g k in h
from_tables t (Some s) m n g k = subst (λ (o : Option Pair). KeptBoth o m n) g k

-- what the parts' refinement gives is the table's
either : (a b : Bool) → (a ≡ true) ⊎ (b ≡ true) → (a || b) ≡ true
either true b h = refl
either false true h = refl
either false false h = ⊎_elim (λ e. e) (λ e. e) h

or_else : (a b : Bool) (P : Type 0) → (P → b ≡ true) → (a ≡ true) ⊎ P → (a || b) ≡ true
or_else a b P f h = either a b (⊎_elim (λ e. inl e) (λ p. inr (f p)) h)

nothing : (f : Fact) (x y : Plain) → leaves_nothing f x y ≡ true → by_fact f x y ≡ None
nothing f x y e = rw e refl

something : (f : Fact) (x y : Plain) (s : Pair) → leaves_nothing f x y ≡ false → left_of f x y ≡ s → by_fact f x y ≡ Some s
something f x y s e g = rw e (ap (λ p. Some p) g)

pub by_parts : (f : Fact) (x y : Number) (r : Option (Number × Number))
    → BothRefine (URangeRefines f x.first y.first) (BothRefine (SRangeRefines f x.second.first y.second.first) (BothRefine (BitsRefine f x.second.second.first y.second.second.first) (HalfRefines f x.second.second.second y.second.second.second))) r
    → GivesBoth (by_fact f (view x) (view y)) r
by_parts f x y None h =
    nothing f (view x) (view y)
    (or_else (crosses (unsigned_fact f x.first.low x.first.high y.first.low y.first.high)) _ _
    (λ k. or_else (signs_cross (signed_fact f x.second.first.low x.second.first.high y.second.first.low y.second.first.high)) _ _
    (λ l. either (denied f x.second.second.first.value x.second.second.first.unknown y.second.second.first.value y.second.second.first.unknown)
    (halves_cross (half_fact f x.second.second.second.low x.second.second.second.high y.second.second.second.low y.second.second.second.high)) l) k) h)
by_parts f x y (Some s) h =
    let u = h.0 in
    let z = h.1.0 in
    let b = h.1.1.0 in
    let e = h.1.1.1 in
    something f (view x) (view y) (view s.0, view s.1) (or_false _ _ u.0 (or_false _ _ z.0 (or_false _ _ b.0 e.0)))
    (ap₂ (λ (p q : Plain). (p, q))
    (plain_same _ _ (sym u.1.0.0) (sym u.1.0.1) (sym z.1.0.0) (sym z.1.0.1) (sym b.1.0.0) (sym b.1.0.1) (sym e.1.0.0) (sym e.1.0.1))
    (plain_same _ _ (sym u.1.1.0) (sym u.1.1.1) (sym z.1.1.0) (sym z.1.1.1) (sym b.1.1.0) (sym b.1.1.1) (sym e.1.1.0) (sym e.1.1.1)))

-- a fact keeps the pairs of which it holds
by_fact_keeps : (f : Fact) (x y : Plain) (m n : ℕ) → Holds x m → Holds y n → IsFact f m n → KeptBoth (by_fact f x y) m n
by_fact_keeps f x y m n h k i =
    let u = unsigned_fact_keeps f x.low x.high y.low y.high m n h.above h.below k.above k.below i in
    let s = signed_fact_keeps f x.least x.greatest y.least y.greatest m n h.at_least h.at_most k.at_least k.at_most h.fits i in
    let b = bits_fact_keeps f x.value x.unknown y.value y.unknown m n h.agrees k.agrees i in
    let d = half_fact_keeps f x.half_least x.half_greatest y.half_least y.half_greatest m n h.half_at_least h.half_at_most k.half_at_least k.half_at_most i in
    let e : leaves_nothing f x y ≡ false =
    or_false _ _ (not_crossed (unsigned_fact f x.low x.high y.low y.high) m n u.0 u.1)
    (or_false _ _ (signs_not_crossed (signed_fact f x.least x.greatest y.least y.greatest) m n s.0 s.1)
    (or_false _ _ b.0 (halves_not_crossed (half_fact f x.half_least x.half_greatest y.half_least y.half_greatest) m n d.0 d.1))) in
    subst (λ (o : Option Pair). KeptBoth o m n) (sym (something f x y (left_of f x y) e refl)) (
      record { fits = h.fits; above = u.0.0; below = u.0.1; at_least = s.0.0; at_most = s.0.1; agrees = b.1; half_at_least = d.0.0; half_at_most = d.0.1 },
      record { fits = k.fits; above = u.1.0; below = u.1.1; at_least = s.1.0; at_most = s.1.1; agrees = b.2; half_at_least = d.1.0; half_at_most = d.1.1 },
    )

turned_keeps : (o : Option Pair) (m n : ℕ) → KeptBoth o n m → KeptBoth (option_map turned o) m n
turned_keeps None m n h = h
turned_keeps (Some s) m n h = (h.1, h.0)

first_keeps : (o : Option Pair) (m n : ℕ) → KeptBoth o m n → IsSomeAnd (option_map first_of o) (λ z. Holds z m)
first_keeps None m n h = h
first_keeps (Some s) m n h = h.0

both_keep : (a b : Option Plain) (m n : ℕ) → IsSomeAnd a (λ z. Holds z m) → IsSomeAnd b (λ z. Holds z n) → KeptBoth (both a b) m n
both_keep None b m n h k = h
both_keep (Some x) None m n h k = k
both_keep (Some x) (Some y) m n h k = (h, k)

other_than_keeps : (x y : Plain) (m n : ℕ) → Holds x m → Holds y n → m ≢ n → IsSomeAnd (other_than x y) (λ z. Holds z m)
other_than_keeps x y m n h k l =
    cond_both (λ o. IsSomeAnd o (λ z. Holds z m)) (is_constant y) (option_map first_of (by_fact (Not y.low) x y)) (Some x)
    (λ e. let c = only y n e k in
    first_keeps (by_fact (Not y.low) x y) m n (by_fact_keeps (Not y.low) x y m n h k ((λ g. l (g ∙ sym c)), subst (λ (v : ℕ). v < 2 ^ 64) c k.fits)))
    (λ _. h)

abbrev IsEdge : Edge → ℕ → ℕ → Type 0
IsEdge (Ahead f) m n = IsFact f m n
IsEdge (Turned f) m n = IsFact f n m
IsEdge Apart m n = m ≢ n
IsEdge Disjoint m n = bit_and m n ≡ 0

by_edge_keeps : (e : Edge) (x y : Plain) (m n : ℕ) → Holds x m → Holds y n → IsEdge e m n → KeptBoth (by_edge e x y) m n
by_edge_keeps (Ahead f) x y m n h k i = by_fact_keeps f x y m n h k i
by_edge_keeps (Turned f) x y m n h k i = turned_keeps (by_fact f y x) m n (by_fact_keeps f y x n m k h i)
by_edge_keeps Apart x y m n h k i =
    both_keep (other_than x y) (other_than y x) m n (other_than_keeps x y m n h k i) (other_than_keeps y x n m k h (λ g. i (sym g)))
by_edge_keeps Disjoint x y m n h k i =
    cond_both (λ o. KeptBoth o m n) (is_constant y) (by_fact (NoneOf y.low) x y) (Some (x, y))
    (λ e. by_fact_keeps (NoneOf y.low) x y m n h k (subst (λ (v : ℕ). bit_and m v ≡ 0) (only y n e k) i))
    (λ _. (h, k))

-- what the comparison's edge tells holds
edge_of_holds : (c : Comparison) (taken : Bool) (m n : ℕ) → compared c w64 m n ≡ taken → IsEdge (edge_of c taken) m n
edge_of_holds is.Equal true m n e = grind arith
edge_of_holds is.Equal false m n e = λ h. grind arith
edge_of_holds is.NotEqual true m n e = λ h. grind arith
edge_of_holds is.NotEqual false m n e = grind arith
edge_of_holds is.Greater true m n e = grind arith
edge_of_holds is.Greater false m n e = grind arith
edge_of_holds is.GreaterEqual true m n e = grind arith
edge_of_holds is.GreaterEqual false m n e = grind arith
edge_of_holds is.Less true m n e = grind arith
edge_of_holds is.Less false m n e = grind arith
edge_of_holds is.LessEqual true m n e = grind arith
edge_of_holds is.LessEqual false m n e = grind arith
edge_of_holds is.SignedGreater true m n e = grind (arith, ints)
edge_of_holds is.SignedGreater false m n e = grind (arith, ints)
edge_of_holds is.SignedGreaterEqual true m n e = grind (arith, ints)
edge_of_holds is.SignedGreaterEqual false m n e = grind (arith, ints)
edge_of_holds is.SignedLess true m n e = grind (arith, ints)
edge_of_holds is.SignedLess false m n e = grind (arith, ints)
edge_of_holds is.SignedLessEqual true m n e = grind (arith, ints)
edge_of_holds is.SignedLessEqual false m n e = grind (arith, ints)
edge_of_holds is.SharesBits true m n e = λ h. grind arith
edge_of_holds is.SharesBits false m n e = grind arith

-- of short numbers the low halves compare as the whole ones do
low_half : (m : ℕ) → m < 2 ^ 32 → m % 2 ^ 32 ≡ m
low_half m p = omega arith

low_signed : (m : ℕ) → m < 2 ^ 31 → cast_signed w32 (m % 2 ^ 32) ≡ cast_signed w64 m
low_signed m p =
    let e : m % 2 ^ 32 ≡ m = omega arith in
    rw e (omega (arith, ints))

short_same : (c : Comparison) (m n : ℕ) → m < short_end c → n < short_end c → is_taken Bits32 c m n ≡ compared c w64 m n
short_same is.Equal m n p q = ap₂ (λ u v. compared is.Equal w64 u v) (low_half m p) (low_half n q)
short_same is.NotEqual m n p q = ap₂ (λ u v. compared is.NotEqual w64 u v) (low_half m p) (low_half n q)
short_same is.Greater m n p q = ap₂ (λ u v. compared is.Greater w64 u v) (low_half m p) (low_half n q)
short_same is.GreaterEqual m n p q = ap₂ (λ u v. compared is.GreaterEqual w64 u v) (low_half m p) (low_half n q)
short_same is.Less m n p q = ap₂ (λ u v. compared is.Less w64 u v) (low_half m p) (low_half n q)
short_same is.LessEqual m n p q = ap₂ (λ u v. compared is.LessEqual w64 u v) (low_half m p) (low_half n q)
short_same is.SharesBits m n p q = ap₂ (λ u v. compared is.SharesBits w64 u v) (low_half m p) (low_half n q)
short_same is.SignedGreater m n p q = ap₂ (λ u v. lt_z v u) (low_signed m p) (low_signed n q)
short_same is.SignedGreaterEqual m n p q = ap₂ (λ u v. le_z v u) (low_signed m p) (low_signed n q)
short_same is.SignedLess m n p q = ap₂ (λ u v. lt_z u v) (low_signed m p) (low_signed n q)
short_same is.SignedLessEqual m n p q = ap₂ (λ u v. le_z u v) (low_signed m p) (low_signed n q)

below_end : (b n e : ℕ) → n ≤ b → nat_lt b e ≡ true → n < e
below_end b n e p t = grind arith

edge_of_along : (bits : OpWidth) (c : Comparison) (x y : Plain) (m n : ℕ) → Holds x m → Holds y n → tells bits c x y ≡ true → is_taken bits c m n ≡ compared c w64 m n
edge_of_along Bits64 c x y m n h k e = refl
edge_of_along Bits32 c x y m n h k e =
    short_same c m n (below_end x.high m (short_end c) h.below (and_first _ _ e)) (below_end y.high n (short_end c) k.below (and_second _ _ e))

refined_keeps : (bits : OpWidth) (c : Comparison) (taken : Bool) (x y : Plain) (m n : ℕ) → Holds x m → Holds y n → is_taken bits c m n ≡ taken → KeptBoth (refined bits c taken x y) m n
refined_keeps bits c taken x y m n h k t =
    cond_both (λ o. KeptBoth o m n) (tells bits c x y) (by_edge (edge_of c taken) x y) (Some (x, y))
    (λ e. by_edge_keeps (edge_of c taken) x y m n h k (edge_of_holds c taken m n (sym (edge_of_along bits c x y m n h k e) ∙ t)))
    (λ _. (h, k))

tightened_keeps : (precision : Precision) (o : Option Pair) (m n : ℕ) → KeptBoth o m n → KeptBoth (option_and_then (tightened precision) o) m n
tightened_keeps precision None m n h = h
tightened_keeps precision (Some s) m n h = both_keep (tighten precision s.0) (tighten precision s.1) m n (tighten_sound precision s.0 m h.0) (tighten_sound precision s.1 n h.1)

on_both : (o : Option Pair) (k : Pair → Option Pair) (a b m n : ℕ) → KeptBoth o a b → ((s : Pair) → Holds s.0 a → Holds s.1 b → KeptBoth (k s) m n) → KeptBoth (option_and_then k o) m n
on_both None k a b m n h f = h
on_both (Some s) k a b m n h f = f s h.0 h.1

lt_true : (a b : ℤ) → lt_z a b ≡ true → a <ℤ b
lt_true a b e = grind (arith, ints)

lt_false : (a b : ℤ) → lt_z a b ≡ false → b ≤ℤ a
lt_false a b e = grind (arith, ints)

le_true : (a b : ℤ) → le_z a b ≡ true → a ≤ℤ b
le_true a b e = grind (arith, ints)

le_false : (a b : ℤ) → le_z a b ≡ false → b <ℤ a
le_false a b e = grind (arith, ints)

-- a number below 2 ^ 32 is its own low half
own_half : (m : ℕ) → m < 2 ^ 32 → cast_signed w32 m ≡ signed_half m
own_half m p = ap (λ k. cast_signed w32 k) (sym (low_half m p))

above_halves : (m n : ℕ) → m < 2 ^ 32 → n < 2 ^ 32 → cast_signed w32 m <ℤ cast_signed w32 n → signed_half m <ℤ signed_half n
above_halves m n p q h = rw (← own_half m p, ← own_half n q) h

at_least_halves : (m n : ℕ) → m < 2 ^ 32 → n < 2 ^ 32 → cast_signed w32 m ≤ℤ cast_signed w32 n → signed_half m ≤ℤ signed_half n
at_least_halves m n p q h = rw (← own_half m p, ← own_half n q) h

-- what a comparison of low halves tells of numbers below 2 ^ 32
half_edge_holds : (c : Comparison) (taken : Bool) (m n : ℕ) → m < 2 ^ 32 → n < 2 ^ 32 → compared c w32 m n ≡ taken → IsEdge (half_edge (edge_of c taken)) m n
half_edge_holds is.Equal true m n p q e = grind arith
half_edge_holds is.Equal false m n p q e = λ h. grind arith
half_edge_holds is.NotEqual true m n p q e = λ h. grind arith
half_edge_holds is.NotEqual false m n p q e = grind arith
half_edge_holds is.Greater true m n p q e = grind arith
half_edge_holds is.Greater false m n p q e = grind arith
half_edge_holds is.GreaterEqual true m n p q e = grind arith
half_edge_holds is.GreaterEqual false m n p q e = grind arith
half_edge_holds is.Less true m n p q e = grind arith
half_edge_holds is.Less false m n p q e = grind arith
half_edge_holds is.LessEqual true m n p q e = grind arith
half_edge_holds is.LessEqual false m n p q e = grind arith
half_edge_holds is.SignedGreater true m n p q e = above_halves n m q p (lt_true _ _ e)
half_edge_holds is.SignedGreater false m n p q e = at_least_halves m n p q (lt_false _ _ e)
half_edge_holds is.SignedGreaterEqual true m n p q e = at_least_halves n m q p (le_true _ _ e)
half_edge_holds is.SignedGreaterEqual false m n p q e = above_halves m n p q (le_false _ _ e)
half_edge_holds is.SignedLess true m n p q e = above_halves m n p q (lt_true _ _ e)
half_edge_holds is.SignedLess false m n p q e = at_least_halves n m q p (lt_false _ _ e)
half_edge_holds is.SignedLessEqual true m n p q e = at_least_halves m n p q (le_true _ _ e)
half_edge_holds is.SignedLessEqual false m n p q e = above_halves n m q p (le_false _ _ e)
half_edge_holds is.SharesBits true m n p q e = λ h. grind arith
half_edge_holds is.SharesBits false m n p q e = grind arith

along_cuts_keeps : (c : Comparison) (taken : Bool) (x y : Plain) (m n : ℕ) → Holds x m → Holds y n → is_taken Bits32 c m n ≡ taken → KeptBoth (along_cuts c taken x y) (m % 2 ^ 32) (n % 2 ^ 32)
along_cuts_keeps c taken x y m n h k t =
    let p : m % 2 ^ 32 < 2 ^ 32 = omega arith in
    let q : n % 2 ^ 32 < 2 ^ 32 = omega arith in
    tightened_keeps Halves (option_and_then (λ s. by_edge (half_edge (edge_of c taken)) s.0 s.1) (both (cut Halves x) (cut Halves y))) _ _
    (on_both (both (cut Halves x) (cut Halves y)) (λ s. by_edge (half_edge (edge_of c taken)) s.0 s.1) _ _ _ _
    (both_keep (cut Halves x) (cut Halves y) _ _ (cut_keeps Halves x m h) (cut_keeps Halves y n k))
    (λ s i j. by_edge_keeps (half_edge (edge_of c taken)) s.0 s.1 _ _ i j (half_edge_holds c taken (m % 2 ^ 32) (n % 2 ^ 32) p q t)))

-- a number of 32 bits is its cut; another has its half
put_back_keeps : (x z : Plain) (m : ℕ) → Holds x m → Holds z (m % 2 ^ 32) → IsSomeAnd (put_back x z) (λ w. Holds w m)
put_back_keeps x z m h k =
    cond_both (λ o. IsSomeAnd o (λ w. Holds w m)) (nat_lt x.high (2 ^ 32)) (Some z) (tighten Halves (record x { half_least = z.half_least; half_greatest = z.half_greatest }))
    (λ e. subst (λ (v : ℕ). Holds z v) (low_half m (below_end x.high m (2 ^ 32) h.below e)) k)
    (λ _. let e = half_of_cut m in
    tighten_sound Halves _ m (record { fits = h.fits; above = h.above; below = h.below; at_least = h.at_least; at_most = h.at_most; agrees = h.agrees; half_at_least = rw (sym e) k.half_at_least; half_at_most = rw (sym e) k.half_at_most }))

pub along_keeps : (precision : Precision) (bits : OpWidth) (c : Comparison) (taken : Bool) (x y : Plain) (m n : ℕ) → Holds x m → Holds y n → is_taken bits c m n ≡ taken → KeptBoth (along precision bits c taken x y) m n
along_keeps Whole bits c taken x y m n h k t =
    let a = any_half_holds x m h in
    let b = any_half_holds y n k in
    tightened_keeps Whole (refined bits c taken (with_any_half x) (with_any_half y)) m n (refined_keeps bits c taken (with_any_half x) (with_any_half y) m n a b t)
along_keeps Halves Bits64 c taken x y m n h k t =
    tightened_keeps Halves (by_edge (edge_of c taken) x y) m n (by_edge_keeps (edge_of c taken) x y m n h k (edge_of_holds c taken m n t))
along_keeps Halves Bits32 c taken x y m n h k t =
    on_both (along_cuts c taken x y) (put_both_back x y) _ _ m n (along_cuts_keeps c taken x y m n h k t)
    (λ s i j. both_keep (put_back x s.0) (put_back y s.1) m n (put_back_keeps x s.0 m h i) (put_back_keeps y s.1 n k j))
