-- The frame of a method's entry, and what a frame is true of.
use Rattle.std.specs.Prelude.{◌≡◌, ℕ, ◌^◌, ◌<◌, ◌≤◌, length}
use Rattle.bpf_decode.specs.declared.region.Region.TheVariants.{Stack}
use Rattle.bpf_decode.specs.declared.rule_set.RuleSet.{RuleSet}
use Rattle.bpf_decode.specs.declared.rule_set.RuleSet.TheVariants.{One, Two, Three}
use Rattle.bpf_machine.specs.declared.caps.Caps.{Caps}
use Rattle.object_store.specs.Object.{AreBytes}
use Rattle.object_store.specs.Limits.{IsLimits, IsAnyObject}
use Rattle.bpf_machine.specs.State.{size}
use Rattle.bpf_machine.specs.Typed.{Typed, TypedMemory}
use Rattle.bpf_machine.specs.Slots.{slot_value, slot_values, IsStack, IsNumber}
use Rattle.abstract_num.specs.declared.precision.Precision.{Precision}
use Rattle.abstract_num.specs.declared.precision.Precision.TheVariants.{Whole, Halves}
use Rattle.abstract_regs.specs.Frame.{PlainFrame, HoldsEach, entry_frame}
use Rattle.abstract_regs.specs.Moves.{HoldsLinks}

-- whether numbers have a half: in rule set 3 alone
abbrev pub precision_of : RuleSet → Precision
precision_of One = Whole
precision_of Two = Whole
precision_of Three = Halves

-- of how many slots of the stack frames speak: of all but in rule set 1
abbrev pub known_slots : RuleSet → ℕ
known_slots One = 0
known_slots Two = 64
known_slots Three = 64

-- how many places frames may link: the eleven registers and the slots of the stack, in rule set 3
-- alone
abbrev pub known_links : RuleSet → ℕ
known_links One = 0
known_links Two = 0
known_links Three = 75

-- what is known as a method begins
abbrev pub entry : RuleSet → Caps → PlainFrame
entry rules caps =
    entry_frame (precision_of rules) caps.in_cap (size caps Stack) (known_slots rules) (known_links rules)

-- regions of bytes, a stack of 64 slots, of which all but the first ones, that many, are numbers
pub record IsMemory (known : ℕ) (m : TypedMemory) : Type 0 where
  pub input : AreBytes m.input
  pub output : AreBytes m.output
  pub stack : IsStack 64 m.stack
  pub rest : (j : ℕ) → known ≤ j → j < 64 → IsNumber (slot_value m.stack j)

-- what holds of every state: its memory, a well-formed object, a client's number, and limits that a
-- host may give
pub record IsWithin (known : ℕ) (s : Typed) : Type 0 where
  pub memory : IsMemory known s.memory
  pub object : IsAnyObject s.object
  pub client : s.caller < 2 ^ 32
  pub limits : IsLimits s.limits

-- A state that a frame is true of. The frame speaks of the first slots, that many: of all of them,
-- or of none. Its links are true of the registers and of the slots.
pub record Holds (known : ℕ) (f : PlainFrame) (s : Typed) : Type 0 where
  pub regs : HoldsEach f.registers s.regs
  pub long : length f.slots ≡ known
  pub slots : HoldsEach f.slots (slot_values known s.memory.stack)
  pub links : HoldsLinks f s.regs (slot_values known s.memory.stack)
  pub within : IsWithin known s
