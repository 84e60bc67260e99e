-- What a call of a method comes to: of one that runs to its exit, and of one that may loop.
use Rattle.std.specs.Prelude.{◌≡◌, ◌-◌, ◌<◌, ◌^◌, ℕ, zero, suc, List, Option, Some, None, nat_lt, if◌then◌else◌}
use Rattle.bpf_decode.specs.Class.{ClassMethod}
use Rattle.bpf_decode.specs.Instruction.{spelling}
use Rattle.object_store.specs.Limits.{profile}
use Rattle.object_store.specs.Object.{PlainObject}
use Rattle.bpf_machine.specs.declared.caps.Caps.{Caps}
use Rattle.bpf_machine.specs.State.{State, Outcome, outcome_of}
use Rattle.bpf_machine.specs.Flat.{Layout, exit_code, step}
use Rattle.bpf_machine.specs.Lists.{listed_host_entry}
use Rattle.bpf_machine.specs.Safe.{call_outcome, caps_of, first_layout}
use Rattle.interp.specs.declared.outcome.Outcome.{Outcome as Answer}
use Rattle.interp.specs.Plain.{outcome_of_answer}
use Rattle.loop_heads.specs.Loops.{PlainLoops}
use Rattle.loop_machine.specs.Runs.{spent_outcome, weight_at}
use Rattle.loop_objects.specs.Calls.{AnswersLooped}

-- the outcome of a call of a method on an object, for a client on an input
abbrev pub Calls : Type 0
Calls = ClassMethod → PlainObject → ℕ → List ℕ → Outcome

-- At an exit with a number a run ends, else it goes on if there is a step. A run that is stuck, as none of a safe
-- method is, has the outcome of a budget that is used up.
abbrev pub ends_or : PlainObject → State ℕ → Option ℕ → Outcome → Outcome
ends_or before s None more = more
ends_or before s (Some value) more = outcome_of before value s

abbrev pub goes_on : PlainObject → Option (State ℕ) → (State ℕ → Outcome) → Outcome
goes_on before None more = spent_outcome before
goes_on before (Some t) more = more t

-- A RUN BY A BUDGET from a state, by what is left of it, in at most so many instructions: if less is left than the
-- instruction that is due weighs, the budget is used up.
abbrev pub spending : Caps → Layout → List ℕ → PlainObject → ℕ → ℕ → State ℕ → Outcome
spending caps lay code before zero left s = spent_outcome before
spending caps lay code before (suc n) left s =
    if nat_lt left (weight_at code s.slot) then spent_outcome before else
    ends_or before s (exit_code code s)
    (goes_on before (step caps lay code s) (spending caps lay code before n (left - weight_at code s.slot)))

-- each instruction weighs 1 or more, so that no run makes more of them than its budget
abbrev pub budget_outcome : ClassMethod → ℕ → PlainObject → ℕ → List ℕ → Outcome
budget_outcome m budget object caller input =
    spending (caps_of m) (first_layout (caps_of m)) (spelling m.instructions) object (suc budget) budget
    (listed_host_entry profile (caps_of m) (first_layout (caps_of m)) object caller input)

-- THE OUTCOME OF A CALL BY LOOPS: of a method that declares none its own, of another one that of its run by the budget
-- that it declares.
abbrev pub outcome_by : Option PlainLoops → Calls
outcome_by None m object caller input = call_outcome m object caller input
outcome_by (Some l) m object caller input = budget_outcome m l.budget object caller input

abbrev pub loop_outcome : Calls
loop_outcome m object caller input = outcome_by m.loops m object caller input

-- What a call by loops answers is that outcome.
abbrev pub LoopOutcomesAreOne : Type 0
LoopOutcomesAreOne =
    (m : ClassMethod) → m.in_cap < 2 ^ 16 → m.out_cap < 2 ^ 16 →
    (object : PlainObject) (caller : ℕ) (input : List ℕ) (answer : Answer) →
    AnswersLooped m object caller input answer → loop_outcome m object caller input ≡ outcome_of_answer answer
