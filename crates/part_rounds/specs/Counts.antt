-- How many helpers a run calls, and how many names it removes.
use Rattle.std.specs.Prelude.{ℕ, zero, suc, ◌+◌, ◌==◌, ◌&&◌, Bool, true, false, if◌then◌else◌, List, Option, Some, None}
use Rattle.bpf_decode.specs.declared.insn.Insn.{Insn}
use Rattle.bpf_decode.specs.declared.insn.Insn.TheVariants.{Call}
use Rattle.helpers.specs.declared.helper.Helper.{Helper}
use Rattle.helpers.specs.declared.helper.Helper.TheVariants.{RmXattr, MapRm}
use Rattle.helpers.specs.Table.{helper_of}
use Rattle.bpf_machine.specs.declared.caps.Caps.{Caps}
use Rattle.bpf_machine.specs.State.{◌>>=◌, State, reg}
use Rattle.bpf_machine.specs.Typed.{fetch}
use Rattle.bpf_machine.specs.Decoded.{insn_step}
use Rattle.bpf_machine.specs.Safe.{first_layout}

-- how many of the numbers below n have a property
abbrev pub count_below : (ℕ → Bool) → ℕ → ℕ
count_below p zero = 0
count_below p (suc n) = count_below p n + (if p n then 1 else 0)

-- whether there is something, and has a property
abbrev pub some_with : {A : Type 0} → (A → Bool) → Option A → Bool
some_with p None = false
some_with p (Some x) = p x

-- the helper that an instruction calls
abbrev pub called_by : Insn → Option Helper
called_by (Call id) = helper_of id
called_by insn = None

-- whether a helper removes a name
abbrev pub removes_name : Helper → Bool
removes_name RmXattr = true
removes_name MapRm = true
removes_name helper = false

-- the flat machine in the first layout, on an object that is there as a whole
module _ (caps : Caps) (code : List (Option Insn)) where
  -- the state after so many instructions, if the run goes on so long
  abbrev pub state_after : State ℕ → ℕ → Option (State ℕ)
  state_after first zero = Some first
  state_after first (suc n) = state_after first n >>= λ s. insn_step caps (first_layout caps) code s

  -- whether the next instruction calls a helper with a property
  abbrev pub calls_next : (Helper → Bool) → State ℕ → Bool
  calls_next p s = some_with p (fetch code s.slot >>= called_by)

  -- whether the next instruction leaves 0 in register 0
  abbrev pub answers_zero : State ℕ → Bool
  answers_zero s = some_with (λ n. n == 0) (insn_step caps (first_layout caps) code s >>= λ t. reg t 0)

  -- of a run's first n instructions, how many call helpers
  abbrev pub calls_in : State ℕ → ℕ → ℕ
  calls_in first n = count_below (λ k. some_with (calls_next (λ helper. true)) (state_after first k)) n

  -- and how many of these remove a name that is there: the helper answers 0
  abbrev pub removals_in : State ℕ → ℕ → ℕ
  removals_in first n =
      count_below
      (λ k. some_with (λ s. calls_next removes_name s && answers_zero s) (state_after first k)) n
