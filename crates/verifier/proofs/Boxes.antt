-- Frames in boxes and out of them.
use Rattle.std.proofs.Common.{◌≡◌, ℕ, zero, suc, ◌<◌, ◌≤◌, List, [], ◌∷◌, Option, None, refl, ap, arith, length, get_or}
use Rattle.std.specs.Prelude.{Box, replicate, slice_set}
use Rattle.abstract_regs.specs.Frame.{PlainFrame}
use Rattle.verifier.specs.Verdict.{frame_at}
use Rattle.verifier.specs.inner.Kept.{unbox, unboxed}

pub unboxed_none : (A : Type 0) (n : ℕ) → unboxed (replicate {A = Option (Box PlainFrame A)} n None) ≡ replicate n None
unboxed_none A zero = refl
unboxed_none A (suc n) = ap (λ xs. None ∷ xs) (unboxed_none A n)

module _ {A : Type 0} where
  pub unboxed_at : (xs : List (Option (Box PlainFrame A))) (q : ℕ) (d : Option (Box PlainFrame A)) → q < length xs → frame_at (unboxed xs) q ≡ unbox (get_or xs q d)
  unboxed_at [] q d h = absurd (omega arith)
  unboxed_at (x ∷ xs) zero d h = refl
  unboxed_at (x ∷ xs) (suc q) d h = unboxed_at xs q d (omega arith)

  pub unboxed_past : (xs : List (Option (Box PlainFrame A))) (q : ℕ) → length xs ≤ q → frame_at (unboxed xs) q ≡ None
  unboxed_past [] q h = refl
  unboxed_past (x ∷ xs) zero h = absurd (omega arith)
  unboxed_past (x ∷ xs) (suc q) h = unboxed_past xs q (omega arith)

  pub unboxed_set : (xs : List (Option (Box PlainFrame A))) (q : ℕ) (o : Option (Box PlainFrame A)) → unboxed (slice_set xs q o) ≡ slice_set (unboxed xs) q (unbox o)
  unboxed_set [] q o = refl
  unboxed_set (x ∷ xs) zero o = refl
  unboxed_set (x ∷ xs) (suc q) o = ap (λ xs. unbox x ∷ xs) (unboxed_set xs q o)

  pub unboxed_set_past : (xs : List (Option (Box PlainFrame A))) (q : ℕ) (o : Option PlainFrame) → length xs ≤ q → slice_set (unboxed xs) q o ≡ unboxed xs
  unboxed_set_past [] q o h = refl
  unboxed_set_past (x ∷ xs) zero o h = absurd (omega arith)
  unboxed_set_past (x ∷ xs) (suc q) o h = ap (λ xs. unbox x ∷ xs) (unboxed_set_past xs q o (omega arith))
