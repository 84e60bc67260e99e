-- The code's own values, which private contracts name: no promise of the crate rests on them.
use Rattle.std.specs.Prelude.{◌≡◌, ℕ, ◌+◌, ◌||◌, not, Bool, false, Option, Some, None, unwrap_or}
use Rattle.std.specs.Option.{option_map}
use Rattle.bpf_decode.specs.declared.region.Region.{Region}
use Rattle.object_store.specs.Object.{PlainObject}
use Rattle.helpers.specs.declared.helper.Helper.{Helper}
use Rattle.helpers.specs.Edits.{helper_edits}
use Rattle.helpers.specs.Table.{row, signature_of}
use Rattle.bpf_machine.specs.declared.caps.Caps.{Caps}
use Rattle.flat_machine.specs.declared.run.RunStop.{RunStop}
use Rattle.flat_machine.specs.declared.run.RunStop.TheVariants as stops
use Rattle.bpf_machine.specs.State.{◌>>=◌, State, reg, set_reg, go, after, with_edits, outcome_of, Ending, Ended, Stuck}
use Rattle.bpf_machine.specs.State.{Unfinished}
use Rattle.bpf_machine.specs.Helper.{asked, answered, write_room}
use Rattle.bpf_machine.specs.Flat.{Layout, range, arguments}

-- what a step left, as the definition has it; if there is none, nothing is said of the state
abbrev pub GivesState : {A : Type 0} → Option A → State ℕ → Option (State ℕ) → Type 0
GivesState (Some x) after step = step ≡ Some after
GivesState None after step = step ≡ None

-- the step that sets a register to a value and goes on at the next slot; there is none if there
-- is no value
abbrev pub sets : ℕ → State ℕ → Option ℕ → Option (State ℕ)
sets d s value = value >>= λ v. after s (set_reg s d v)

-- the same of a wide load, which has two slots
abbrev pub sets_wide : ℕ → State ℕ → Option ℕ → Option (State ℕ)
sets_wide d s value = value >>= λ v. set_reg s d v >>= λ t. Some (go (s.slot + 2) t)

-- a range of which two registers have the address and the length
abbrev pub range_at : Caps → Layout → State ℕ → Bool → ℕ → Option (Option (Region × ℕ) × ℕ)
range_at caps lay s writes k =
    reg s k >>= λ at. reg s (k + 1) >>= λ n. range caps lay writes at n >>= λ p. Some (p, n)

-- whether a method may call the helper of an id
abbrev pub may_call : Caps → ℕ → Bool
may_call caps id = unwrap_or (option_map (λ takes. not takes.writes || caps.writes) (signature_of id)) false

-- a helper by its row of the table, if the method may call it
abbrev pub helped : Caps → Layout → Helper → State ℕ → Option (State ℕ)
helped caps lay h s =
    arguments caps lay s (row h).takes.arguments 1 >>= λ g.
    let e = (row h).effect s.object (asked g) in
    Some (record {
      slot = s.slot;
      regs = answered s.regs e.answer;
      memory = write_room s.memory g.target e.bytes;
      object = e.object;
      out_len = unwrap_or e.out_len s.out_len;
      caller = s.caller;
      limits = s.limits;
      edits =
          with_edits (helper_edits h s.object (asked g)) s.edits;
    })

-- a helper's answer in register 0, registers 1 to 5 unset
abbrev pub with_answer : State ℕ → ℕ → State ℕ
with_answer s n = record s { regs = answered s.regs n }

-- a helper's answer, which is still to be put in register 0, and what it left of the state; none
-- if there is no step
abbrev pub Answers : Option ℕ → State ℕ → Option (State ℕ) → Type 0
Answers (Some n) s step = step ≡ Some (with_answer s n)
Answers None s step = step ≡ None

-- where a run stopped, and with what state
abbrev pub stopped : PlainObject → RunStop → State ℕ → Ending
stopped before (stops.Exit code steps) s = Ended (outcome_of before code s) steps
stopped before stops.Stuck s = Stuck
stopped before stops.Unfinished s = Unfinished
