-- That the tables keep every number, as laws.
use Rattle.std.specs.Prelude.{◌≡◌, ℕ, ◌≤ℤ◌, bit_or, bit_xor}
use Rattle.std.specs.Int.{bit_at, int_min, int_max}
use Rattle.std.proofs.Common.{ℤ, ap, subst, zero-le, arith}
use Rattle.std.proofs.lemmas.Int.{ints, clamps}
use Rattle.std.proofs.lemmas.Nat.Bits.{bit_at_or, bit_at_xor, bit_at-lt, same_from_bits}
use Rattle.abstract_num.specs.Masks.{clear}
use Rattle.abstract_num.specs.proved.PartsFit.{bit_at_clear}
use Rattle.abstract_num.specs.Signed.{signed, signed_half}
use Rattle.abstract_num.specs.Plain.{Plain, Holds, constant, join}
use Rattle.abstract_num.specs.Keeping.{HeldIn, ConstantsFit, NegativeKeeps, RangeKeeps, LoadKeeps, SignedLoadKeeps, JoinKeeps}
use Rattle.abstract_num.specs.Transfer.{transferred, ranged, signed_ranged, load_high, signed_low, signed_high}
use Rattle.bpf_decode.specs.declared.operation.Arithmetic.TheVariants.{Sub}
use Rattle.abstract_num.proofs.Tight.{tighten_sound}
use Rattle.abstract_num.proofs.Transfers.{any_holds, constant_holds, transferred_keeps, negative_is}
use Rattle.abstract_num.proofs.Loads.{load_small, load_fits, signed_load_between}

pub constants_fit : ConstantsFit
constants_fit n h = record { high = h; unknown = omega arith }

pub negative_keeps : NegativeKeeps
negative_keeps precision bits x f n h =
    subst (λ (v : ℕ). HeldIn (transferred precision bits Sub (constant 0) x) v) (negative_is bits n)
    (transferred_keeps precision bits Sub (constant 0) x (constants_fit 0 (omega arith)) f 0 n (constant_holds 0 (omega arith)) h)

pub range_keeps : RangeKeeps
range_keeps precision low high n f l h =
    let a = any_holds n f in
    tighten_sound precision (ranged low high) n (record { fits = f; above = l; below = h; at_least = a.at_least; at_most = a.at_most; agrees = a.agrees; half_at_least = a.half_at_least; half_at_most = a.half_at_most })

pub load_keeps : LoadKeeps
load_keeps precision w n h = let s = load_small w n h in range_keeps precision 0 (load_high w) n (omega (arith, load_fits w, s)) zero-le s

pub signed_load_keeps : SignedLoadKeeps
signed_load_keeps precision w n h =
    let s = signed_load_between w n h in
    let a = any_holds _ s.0 in
    tighten_sound precision (signed_ranged (signed_low w) (signed_high w)) _ (record { fits = s.0; above = a.above; below = a.below; at_least = s.1; at_most = s.2; agrees = a.agrees; half_at_least = a.half_at_least; half_at_most = a.half_at_most })

-- the hull of two signed ranges holds what either does
hull_left : (p q r s z : ℤ) → p ≤ℤ z → z ≤ℤ q → (int_min p r ≤ℤ z) × (z ≤ℤ int_max q s)
hull_left p q r s z h k = (omega (arith, ints, clamps), omega (arith, ints, clamps))

hull_right : (p q r s z : ℤ) → r ≤ℤ z → z ≤ℤ s → (int_min p r ≤ℤ z) × (z ≤ℤ int_max q s)
hull_right p q r s z h k = (omega (arith, ints, clamps), omega (arith, ints, clamps))

abbrev joined_mask : ℕ → ℕ → ℕ → ℕ → ℕ
joined_mask v m w k = bit_or (bit_or m k) (bit_xor v w)

agrees_left : (n v m w k : ℕ) → clear n m ≡ v → clear n (joined_mask v m w k) ≡ clear v (joined_mask v m w k)
agrees_left n v m w k e =
    let u = joined_mask v m w k in
    same_from_bits (clear n u) (clear v u)
    (λ i. omega (arith, bit_at_clear n u i, bit_at_clear v u i, bit_at_clear n m i, ap (λ x. bit_at x i) e, bit_at_or (bit_or m k) (bit_xor v w) i, bit_at_or m k i, bit_at_xor v w i, bit_at-lt n i, bit_at-lt m i, bit_at-lt k i, bit_at-lt v i, bit_at-lt w i))

agrees_right : (n v m w k : ℕ) → clear n k ≡ w → clear n (joined_mask v m w k) ≡ clear v (joined_mask v m w k)
agrees_right n v m w k e =
    let u = joined_mask v m w k in
    same_from_bits (clear n u) (clear v u)
    (λ i. omega (arith, bit_at_clear n u i, bit_at_clear v u i, bit_at_clear n k i, ap (λ x. bit_at x i) e, bit_at_or (bit_or m k) (bit_xor v w) i, bit_at_or m k i, bit_at_xor v w i, bit_at-lt n i, bit_at-lt m i, bit_at-lt k i, bit_at-lt v i, bit_at-lt w i))

join_left : (x y : Plain) (n : ℕ) → Holds x n → Holds (join x y) n
join_left x y n h =
    let s = hull_left x.least x.greatest y.least y.greatest (signed n) h.at_least h.at_most in
    let e = hull_left x.half_least x.half_greatest y.half_least y.half_greatest (signed_half n) h.half_at_least h.half_at_most in
    record { fits = h.fits; above = omega (arith, h.above); below = omega (arith, h.below); at_least = s.0; at_most = s.1; agrees = agrees_left n x.value x.unknown y.value y.unknown h.agrees; half_at_least = e.0; half_at_most = e.1 }

join_right : (x y : Plain) (n : ℕ) → Holds y n → Holds (join x y) n
join_right x y n h =
    let s = hull_right x.least x.greatest y.least y.greatest (signed n) h.at_least h.at_most in
    let e = hull_right x.half_least x.half_greatest y.half_least y.half_greatest (signed_half n) h.half_at_least h.half_at_most in
    record { fits = h.fits; above = omega (arith, h.above); below = omega (arith, h.below); at_least = s.0; at_most = s.1; agrees = agrees_right n x.value x.unknown y.value y.unknown h.agrees; half_at_least = e.0; half_at_most = e.1 }

pub join_keeps : JoinKeeps
join_keeps x y = record { left = join_left x y; right = join_right x y }
