-- The records of a run that ends: what is seen of its steps.
use Rattle.std.specs.Prelude.{◌≡◌, ◌≤◌, ℕ, List, [], ◌∷◌, ◌++◌, Option, Some, codes, length, map}
use Rattle.std.specs.Prelude.{string_bytes}
use Rattle.std.specs.List.{flat_map}
use Rattle.bpf_decode.specs.Class.{ClassMethod}
use Rattle.bpf_decode.specs.Instruction.{spelling}
use Rattle.object_store.specs.Object.{PlainObject}
use Rattle.bpf_machine.specs.declared.caps.Caps.{Caps}
use Rattle.bpf_machine.specs.State.{State, Outcome, Ended}
use Rattle.bpf_machine.specs.Flat.{Layout, EndsAtExit, entry, exit_code, run, step}
use Rattle.bpf_machine.specs.Safe.{RunsTo, call_outcome, caps_of, first_layout}
use Rattle.class_trace.specs.declared.steps.TraceLine.{TraceLine}

-- What is seen of a step: its slot, and the registers after it.
pub record Seen : Type 0 where
  pub slot : ℕ
  pub regs : List (Option ℕ)

-- of a step from one state to another
abbrev pub seen : State ℕ → State ℕ → Seen
seen s t = record { slot = s.slot; regs = t.regs }

-- what lines say that was seen
abbrev pub records : List TraceLine → List Seen
records lines = map (λ line. record { slot = line.slot; regs = line.regs }) lines

-- the text of lines, each with its end
abbrev pub trace_text : List TraceLine → List ℕ
trace_text lines = flat_map (λ line. string_bytes line.text ++ codes "\n") lines

module _ (caps : Caps) (lay : Layout) (code : List ℕ) where
  -- What is seen of the chain of steps from a state on, in order, up to an exit, which leaves the
  -- registers as they are.
  abbrev pub IsTrace : State ℕ → List Seen → Type 0
  IsTrace s [] = ⊥
  IsTrace s (r ∷ []) = (value : ℕ) × (exit_code code s ≡ Some value) × (r ≡ seen s s)
  IsTrace s (r ∷ q ∷ rs) = (t : State ℕ) × (step caps lay code s ≡ Some t) × (r ≡ seen s t) × IsTrace t (q ∷ rs)

  -- a state's run ends within n steps, as many as are recorded
  pub record AreRecords (n : ℕ) (s : State ℕ) (rs : List Seen) : Type 0 where
    pub trace : IsTrace s rs
    pub outcome : Outcome
    pub ends : run caps lay code s.object n s ≡ Ended outcome (length rs)

-- A call whose run ends, as that of a safe method does, in each layout.
abbrev pub Ends : ClassMethod → PlainObject → ℕ → List ℕ → Type 0
Ends m object caller input =
    (outcome : Outcome) × (steps : ℕ) × (steps ≤ length m.instructions) × RunsTo m object caller input outcome steps

-- What is seen of a call's run in the first layout, from its entry on. The run ends with the
-- outcome of the call, in as many steps as are seen.
pub record IsTraceOf (m : ClassMethod) (object : PlainObject) (caller : ℕ) (input : List ℕ)
    (rs : List Seen) : Type 0 where
  pub steps : IsTrace (caps_of m) (first_layout (caps_of m)) (spelling m.instructions)
      (entry (caps_of m) (first_layout (caps_of m)) object caller input) rs
  pub ends : EndsAtExit (caps_of m) (first_layout (caps_of m)) (spelling m.instructions) object
      (entry (caps_of m) (first_layout (caps_of m)) object caller input)
      (call_outcome m object caller input) (length rs)
