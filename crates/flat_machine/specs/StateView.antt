-- What a state of the code, and a step of it, are to the definitions.
use Rattle.std.specs.Prelude.{◌≡◌, ℕ, Option, Some, None, slice_get}
use Rattle.object_store.specs.Limits.{profile}
use Rattle.bpf_machine.specs.declared.caps.Caps.{Caps}
use Rattle.flat_machine.specs.declared.regions.Regions.{Regions}
use Rattle.flat_machine.specs.declared.state.FlatState.{FlatState}
use Rattle.flat_machine.specs.declared.stepping.Stepped.{Stepped}
use Rattle.flat_machine.specs.declared.stepping.Stepped.TheVariants as stepped
use Rattle.bpf_machine.specs.State.{◌>>=◌, Memory, State, cells}
use Rattle.bpf_machine.specs.Flat.{Layout, find}
use Rattle.flat_machine.specs.View.{layout_of}

-- the regions' bytes
abbrev pub memory_of : Regions → Memory
memory_of m = record { input = m.input.items; output = m.output.items; stack = m.stack.items }

-- the state of the definition, by the limits of all objects, which keeps no list of edits
abbrev pub flat_state : FlatState → State ℕ
flat_state s = record {
  slot = s.slot;
  regs = s.regs;
  memory = memory_of s.memory;
  object = s.object.after;
  out_len = s.out_len;
  caller = s.caller;
  limits = profile;
  edits = None;
}

-- what the machine of a state's method declares, and where it has its regions
abbrev pub caps_in : FlatState → Caps
caps_in s = s.memory.machine.caps

abbrev pub layout_in : FlatState → Layout
layout_in s = layout_of s.memory.machine.layout

-- the byte at an address, if that is in a region
abbrev pub byte_at : Caps → Layout → State ℕ → ℕ → Option ℕ
byte_at caps lay s at = find caps lay at 1 >>= λ p. slice_get (cells s.memory p.0) p.1

-- What came of a state, by its code at an exit and its step: it went on to the next state, or it
-- stays at an exit, or it is stuck.
abbrev pub Steps : Stepped → Option ℕ → Option (State ℕ) → State ℕ → State ℕ → Type 0
Steps stepped.Next exit step before after = (exit ≡ None) × (step ≡ Some after)
Steps (stepped.Exit value) exit step before after = (exit ≡ Some value) × (after ≡ before)
Steps stepped.Stuck exit step before after = (exit ≡ None) × (step ≡ None)
