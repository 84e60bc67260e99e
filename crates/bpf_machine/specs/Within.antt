-- What a run leaves is within the limits.
use Rattle.std.specs.Prelude.{◌≡◌, ℕ, ◌≤◌, List, length}
use Rattle.bpf_machine.specs.declared.caps.Caps.{Caps}
use Rattle.object_store.specs.Object.{PlainObject, IsObject, AreBytes}
use Rattle.bpf_machine.specs.State.{AreCapacities, Outcome, Ended}
use Rattle.bpf_machine.specs.Flat.{Layout, run, entry}
use Rattle.bpf_machine.specs.Safe.{caps_of, IsCall, call_outcome}
use Rattle.bpf_decode.specs.Class.{ClassMethod}

-- an object within its limits, and at most out_cap bytes of output
pub record IsWithinLimits (caps : Caps) (outcome : Outcome) : Type 0 where
  pub object : IsObject outcome.object
  pub bytes : AreBytes outcome.output
  pub short : length outcome.output ≤ caps.out_cap

-- The outcome of every run that began within the limits, in regions as long as a method may have
-- them.
abbrev pub OutcomesAreWithinLimits : Type 0
OutcomesAreWithinLimits =
    (caps : Caps) (lay : Layout) (code : List ℕ) (before : PlainObject) (caller : ℕ) (input : List ℕ) (count : ℕ)
    (outcome : Outcome) (steps : ℕ) →
    AreCapacities caps → IsObject before → AreBytes input → length input ≤ caps.in_cap →
    run caps lay code before count (entry caps lay before caller input) ≡ Ended outcome steps →
    IsWithinLimits caps outcome

-- The outcome of every call that is within the limits.
abbrev pub CallsAreWithinLimits : Type 0
CallsAreWithinLimits =
    (m : ClassMethod) → AreCapacities (caps_of m) → (object : PlainObject) (caller : ℕ) (input : List ℕ) →
    IsCall m object caller input → IsWithinLimits (caps_of m) (call_outcome m object caller input)
