-- The classes of a table are verified, one after the other.
use Rattle.std.proofs.Common.{◌<◌, ◌≤◌, ◌+◌, ℕ, suc, [], ◌∷◌, length, sym, subst, arith, inl, inr}
use Rattle.std.specs.Prelude.{IfSome, slice_get}
use Rattle.std.specs.List.{AllByRecursion}
use Rattle.std.proofs.lemmas.Bool.{cases_eq}
use Rattle.pg_log.specs.Log.{Classes}
use Rattle.verifier.specs.Verified.{IsVerifiedClass}

abbrev pub AreVerifiedUpTo : Classes → ℕ → Type 0
AreVerifiedUpTo classes id = (k : ℕ) → k < id → IfSome (slice_get classes k) IsVerifiedClass

pub none_verified : (classes : Classes) → AreVerifiedUpTo classes 0
none_verified classes k low = absurd (omega (arith, low))

pub one_verified : (classes : Classes) (id : ℕ) → IfSome (slice_get classes id) IsVerifiedClass → AreVerifiedUpTo classes id → AreVerifiedUpTo classes (id + 1)
one_verified classes id is all k low = elim (cases_eq k id) as (λ w. IfSome (slice_get classes k) IsVerifiedClass) [
  | inl same ↦ subst (λ (n : ℕ). IfSome (slice_get classes n) IsVerifiedClass) (sym same) is
  | inr other ↦ all k (omega (arith, low, other))
]

each_verified : (classes : Classes) → ((k : ℕ) → k < length classes → IfSome (slice_get classes k) IsVerifiedClass) → AllByRecursion IsVerifiedClass classes
each_verified [] all = tt
each_verified (c ∷ cs) all = (all 0 (omega arith), each_verified cs (λ k low. all (suc k) (omega (arith, low))))

pub all_verified : (classes : Classes) (id : ℕ) → length classes ≤ id → AreVerifiedUpTo classes id → AllByRecursion IsVerifiedClass classes
all_verified classes id past all = each_verified classes (λ k low. all k (omega (arith, low, past)))
