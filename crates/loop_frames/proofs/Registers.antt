-- What registers, or slots, of such kinds have.
use Rattle.std.proofs.Common.{ℕ, zero, suc, List, [], ◌∷◌, Option, Some}
use Rattle.std.specs.Prelude.{slice_get, slice_set}
use Rattle.bpf_decode.specs.declared.value.Value.{Value}
use Rattle.abstract_regs.specs.Kind.{PlainKind, HoldsKind}
use Rattle.abstract_regs.specs.Frame.{or_unset, HoldsEach}
use Rattle.abstract_regs.specs.Moves.{value_at}

pub held : (xs : List PlainKind) (cs : List (Option Value)) (d : ℕ) → HoldsEach xs cs → HoldsKind (or_unset (slice_get xs d)) (value_at cs d)
held [] cs d h = tt
held (x ∷ xs) [] d h = absurd h
held (x ∷ xs) (c ∷ cs) zero h = h.0
held (x ∷ xs) (c ∷ cs) (suc d) h = held xs cs d h.1

-- another kind that is true of what a register has
pub kept : (xs : List PlainKind) (cs : List (Option Value)) (d : ℕ) (x : PlainKind) → HoldsKind x (value_at cs d) → HoldsEach xs cs → HoldsEach (slice_set xs d x) cs
kept [] cs d x k h = tt
kept (y ∷ xs) [] d x k h = absurd h
kept (y ∷ xs) (c ∷ cs) zero x k h = (k, h.1)
kept (y ∷ xs) (c ∷ cs) (suc d) x k h = (h.0, kept xs cs d x k h.1)

-- another value, and a kind that is true of it
pub written : (xs : List PlainKind) (cs : List (Option Value)) (d : ℕ) (x : PlainKind) (v : Value) → HoldsKind x (Some v) → HoldsEach xs cs → HoldsEach (slice_set xs d x) (slice_set cs d (Some v))
written [] cs d x v k h = tt
written (y ∷ xs) [] d x v k h = absurd h
written (y ∷ xs) (c ∷ cs) zero x v k h = (k, h.1)
written (y ∷ xs) (c ∷ cs) (suc d) x v k h = (h.0, written xs cs d x v k h.1)
