-- The code's own; no promise of the crate rests on it.
-- A step of the code: what the pass has between two slots, the frame at hand, and those that are
-- kept for jumps' targets.
use Rattle.std.specs.Prelude.{◌≡◌, ℕ, ◌+◌, ◌<◌, List, Option, Some, None, slice_set, length}
use Rattle.bpf_decode.specs.declared.insn.Insn.{Insn}
use Rattle.bpf_decode.specs.Instruction.{slot_count}
use Rattle.bpf_decode.specs.declared.rule_set.RuleSet.{RuleSet}
use Rattle.bpf_machine.specs.Typed.{fetch}
use Rattle.abstract_regs.specs.Frame.{PlainFrame}
use Rattle.abstract_regs.specs.Flow.{flow}
use Rattle.abstract_regs.specs.Moves.{EachFits, Keeps}
use Rattle.verifier.specs.declared.pass.Pass.{Pass}
use Rattle.bpf_machine.specs.declared.caps.Caps.{Caps}
use Rattle.verifier.specs.Frame.{precision_of}
use Rattle.verifier.specs.Rules.{room_of}
use Rattle.verifier.specs.Answers.{answer_of}
use Rattle.verifier.specs.inner.Kept.{unbox}
use Rattle.verifier.specs.Verdict.{Table, frame_at, joined, met, along, whole_table}

abbrev pub merged : Table → ℕ → PlainFrame → Table
merged table q g = slice_set table q (Some (joined (frame_at table q) g))

-- a flow that may be dead
abbrev pub merged_if : Table → ℕ → Option PlainFrame → Table
merged_if table q None = table
merged_if table q (Some g) = merged table q g

-- what has flowed into slot q, and what falls through to a slot more
abbrev pub fallen : Option PlainFrame → ℕ → ℕ → Option PlainFrame → Option PlainFrame
fallen None landing q inflow = inflow
fallen (Some g) landing q inflow = met landing g q inflow

-- what the pass has of the flows into slot q
abbrev pub awaited : Pass → ℕ → Option PlainFrame
awaited pass q = fallen (unbox pass.current) pass.landing q (frame_at pass.kept q)

-- the flows of an instruction whose frame is given, if there is one
abbrev pub flown : RuleSet → Option PlainFrame → Insn → ℕ → ℕ → Option PlainFrame → Option PlainFrame
flown rules None i p q inflow = inflow
flown rules (Some f) i p q inflow = along (flow (precision_of rules) (room_of i) (answer_of rules f i) i p f) q inflow

-- what the pass has once instruction i at slot p, whose frame is given, has flowed on
pub record HasLeft (rules : RuleSet) (frame : Option PlainFrame) (kept : Table) (i : Insn) (p : ℕ)
    (pass : Pass) : Type 0 where
  pub landing : pass.landing ≡ p + slot_count i
  pub size : length pass.kept ≡ length kept
  pub flows : (q : ℕ) → q < length kept → awaited pass q ≡ flown rules frame i p q (frame_at kept q)

-- what the flow of instruction i at slot p keeps, of a frame that is given, if there is one
pub record Sound (rules : RuleSet) (i : Insn) (p : ℕ) (f : PlainFrame) : Type 0 where
  pub keeps : Keeps (precision_of rules) (room_of i) (answer_of rules f i) i p f
  pub fits : EachFits f.registers

abbrev pub IsSound : RuleSet → Insn → ℕ → Option PlainFrame → Type 0
IsSound rules i p None = Unit {0}
IsSound rules i p (Some f) = Sound rules i p f

-- every flow of a method keeps what its frame holds
abbrev pub AllSound : RuleSet → Caps → List (Option Insn) → Type 0
AllSound rules caps code =
    (p : ℕ) (i : Insn) → fetch code p ≡ Some i → IsSound rules i p (frame_at (whole_table rules caps code) p)

-- no instruction begins within another
abbrev pub IsSpaced : List (Option Insn) → Type 0
IsSpaced code = (p q : ℕ) (i : Insn) → fetch code p ≡ Some i → p < q → q < p + slot_count i → fetch code q ≡ None
