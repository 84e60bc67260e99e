-- Proved; nothing here need be believed.
-- The laws of joining ranges.
use Rattle.std.specs.Prelude.{◌≡◌, ℕ, ℤ, ◌^◌, ◌<◌, ◌≤◌, ◌≤ℤ◌}
use Rattle.std.proofs.Common.{arith, ap, subst, refl}
use Rattle.std.proofs.Props.{props}
use mathlib.Core.Path.{ap₂}
use Rattle.std.proofs.lemmas.Int.{ints, clamps}
use Rattle.abstract_num.specs.Parts.{InURange, InSRange, InHalf, HaveSameHalf, joined_urange, joined_srange}
use Rattle.abstract_num.specs.Parts.{joined_half, BelowURange, BelowSRange, BelowHalf}
use Rattle.abstract_num.specs.declared.urange.URange.{URange}
use Rattle.abstract_num.specs.declared.srange.SRange.{SRange}
use Rattle.abstract_num.specs.declared.half.Half.{Half}

abbrev urange_of : (a b : ℕ) → a ≤ b → b < 2 ^ 64 → URange
urange_of a b o f = record { low = a; high = b; ordered = o; fits = f }

order_once : (a b : ℕ) → IsProp (a ≤ b)
order_once a b = hlevel props

bound_once : (b : ℕ) → IsProp (b < 2 ^ 64)
bound_once b = hlevel props

urange_same_from : (a b c d : ℕ) (o : a ≤ b) (f : b < 2 ^ 64) → a ≡ c → b ≡ d → (o' : c ≤ d) (f' : d < 2 ^ 64) →
    urange_of a b o f ≡ urange_of c d o' f'
urange_same_from a b c d o f p q =
    subst (λ (w : ℕ). (o' : w ≤ d) (f' : d < 2 ^ 64) → urange_of a b o f ≡ urange_of w d o' f') p
    (subst (λ (w : ℕ). (o' : a ≤ w) (f' : w < 2 ^ 64) → urange_of a b o f ≡ urange_of a w o' f') q
    (λ o' f'. ap₂ (urange_of a b) (order_once a b o o') (bound_once b f f')))

-- two ranges of the same ends are the same
pub urange_same : (x y : URange) → x.low ≡ y.low → x.high ≡ y.high → x ≡ y
urange_same x y p q = urange_same_from x.low x.high y.low y.high x.ordered x.fits p q y.ordered y.fits

pub urange_join_commutes : (x y : URange) → joined_urange x y ≡ joined_urange y x
urange_join_commutes x y = urange_same (joined_urange x y) (joined_urange y x) (omega arith) (omega arith)

pub urange_join_associates : (x y z : URange) →
    joined_urange (joined_urange x y) z ≡ joined_urange x (joined_urange y z)
urange_join_associates x y z =
    urange_same (joined_urange (joined_urange x y) z) (joined_urange x (joined_urange y z)) (omega arith) (omega arith)

pub urange_join_of_same : (x : URange) → joined_urange x x ≡ x
urange_join_of_same x = urange_same (joined_urange x x) x (omega arith) (omega arith)

pub urange_join_is_above : (x y : URange) → BelowURange x (joined_urange x y)
urange_join_is_above x y = (omega arith, omega arith)

pub urange_below_holds : (x y : URange) → BelowURange x y → (n : ℕ) → InURange x n → InURange y n
urange_below_holds x y b n h = (omega arith, omega arith, omega arith)

abbrev srange_of : (a b : ℤ) → a ≤ℤ b → SRange
srange_of a b o = record { low = a; high = b; ordered = o }

signed_order_once : (a b : ℤ) → IsProp (a ≤ℤ b)
signed_order_once a b = hlevel props

srange_same_from : (a b c d : ℤ) (o : a ≤ℤ b) → a ≡ c → b ≡ d → (o' : c ≤ℤ d) → srange_of a b o ≡ srange_of c d o'
srange_same_from a b c d o p q =
    subst (λ (w : ℤ). (o' : w ≤ℤ d) → srange_of a b o ≡ srange_of w d o') p
    (subst (λ (w : ℤ). (o' : a ≤ℤ w) → srange_of a b o ≡ srange_of a w o') q
    (λ o'. ap (srange_of a b) (signed_order_once a b o o')))

-- two ranges of the same ends are the same
pub srange_same : (x y : SRange) → x.low ≡ y.low → x.high ≡ y.high → x ≡ y
srange_same x y p q = srange_same_from x.low x.high y.low y.high x.ordered p q y.ordered

pub srange_join_commutes : (x y : SRange) → joined_srange x y ≡ joined_srange y x
srange_join_commutes x y =
    srange_same (joined_srange x y) (joined_srange y x) (omega (arith, ints, clamps)) (omega (arith, ints, clamps))

pub srange_join_associates : (x y z : SRange) →
    joined_srange (joined_srange x y) z ≡ joined_srange x (joined_srange y z)
srange_join_associates x y z =
    srange_same (joined_srange (joined_srange x y) z) (joined_srange x (joined_srange y z))
    (omega (arith, ints, clamps)) (omega (arith, ints, clamps))

pub srange_join_of_same : (x : SRange) → joined_srange x x ≡ x
srange_join_of_same x = srange_same (joined_srange x x) x (omega (arith, ints, clamps)) (omega (arith, ints, clamps))

pub srange_join_is_above : (x y : SRange) → BelowSRange x (joined_srange x y)
srange_join_is_above x y = (omega (arith, ints, clamps), omega (arith, ints, clamps))

pub srange_below_holds : (x y : SRange) → BelowSRange x y → (n : ℕ) → InSRange x n → InSRange y n
srange_below_holds x y b n h = (omega (arith, ints), omega (arith, ints), omega arith)

-- a number is like itself
pub same_number_itself : (n : ℕ) → n < 2 ^ 64 → n ≡ n
same_number_itself n h = refl

pub same_half_itself : (n : ℕ) → n < 2 ^ 64 → HaveSameHalf n n
same_half_itself n h = (h, refl)

abbrev half_of : (a b : ℤ) → a ≤ℤ b → Half
half_of a b o = record { low = a; high = b; ordered = o }

half_same_from : (a b c d : ℤ) (o : a ≤ℤ b) → a ≡ c → b ≡ d → (o' : c ≤ℤ d) → half_of a b o ≡ half_of c d o'
half_same_from a b c d o p q =
    subst (λ (w : ℤ). (o' : w ≤ℤ d) → half_of a b o ≡ half_of w d o') p
    (subst (λ (w : ℤ). (o' : a ≤ℤ w) → half_of a b o ≡ half_of a w o') q
    (λ o'. ap (half_of a b) (signed_order_once a b o o')))

-- two halves of the same ends are the same
pub half_same : (x y : Half) → x.low ≡ y.low → x.high ≡ y.high → x ≡ y
half_same x y p q = half_same_from x.low x.high y.low y.high x.ordered p q y.ordered

pub half_join_commutes : (x y : Half) → joined_half x y ≡ joined_half y x
half_join_commutes x y =
    half_same (joined_half x y) (joined_half y x) (omega (arith, ints, clamps)) (omega (arith, ints, clamps))

pub half_join_associates : (x y z : Half) → joined_half (joined_half x y) z ≡ joined_half x (joined_half y z)
half_join_associates x y z =
    half_same (joined_half (joined_half x y) z) (joined_half x (joined_half y z)) (omega (arith, ints, clamps))
    (omega (arith, ints, clamps))

pub half_join_of_same : (x : Half) → joined_half x x ≡ x
half_join_of_same x = half_same (joined_half x x) x (omega (arith, ints, clamps)) (omega (arith, ints, clamps))

pub half_join_is_above : (x y : Half) → BelowHalf x (joined_half x y)
half_join_is_above x y = (omega (arith, ints, clamps), omega (arith, ints, clamps))

le_through : (a b c : ℤ) → a ≤ℤ b → b ≤ℤ c → a ≤ℤ c
le_through a b c p q = omega (arith, ints)

pub half_below_holds : (x y : Half) → BelowHalf x y → (n : ℕ) → InHalf x n → InHalf y n
half_below_holds x y b n h = (le_through _ _ _ b.0 h.0, le_through _ _ _ h.1 b.1, h.2)
