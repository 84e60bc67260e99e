-- The table of frames of a method, and the verdict on a class.
use Rattle.std.specs.Prelude.{◌≡◌, ◌≢◌, ℕ, zero, suc, ◌+◌, ◌<◌, List, [], ◌∷◌, ◌++◌, Option, Some, None, true}
use Rattle.std.specs.Prelude.{if◌then◌else◌, ◌==◌, slice_get, length}
use Rattle.bpf_decode.specs.declared.insn.Insn.{Insn}
use Rattle.bpf_decode.specs.Instruction.{slots}
use Rattle.bpf_decode.specs.Class.{ClassMethod, Class}
use Rattle.bpf_decode.specs.declared.rule_set.RuleSet.{RuleSet}
use Rattle.bpf_decode.specs.declared.rule_set.RuleSet.TheVariants.{One}
use Rattle.bpf_machine.specs.declared.caps.Caps.{Caps}
use Rattle.bpf_machine.specs.State.{◌>>=◌}
use Rattle.bpf_machine.specs.Typed.{fetch}
use Rattle.bpf_machine.specs.Safe.{caps_of}
use Rattle.verifier.specs.declared.rule.Rule.{Rule}
use Rattle.verifier.specs.declared.rule.Rule.TheVariants.{NoMemory, PointerBytes}
use Rattle.verifier.specs.declared.refusal.Refusal.{Refusal}
use Rattle.verifier.specs.declared.refused.RefusedSlot.{RefusedSlot}
use Rattle.abstract_regs.specs.Frame.{PlainFrame, join}
use Rattle.abstract_regs.specs.Flow.{flow}
use Rattle.verifier.specs.Frame.{precision_of, entry}
use Rattle.verifier.specs.Rules.{breaks, rule_at, room_of}
use Rattle.verifier.specs.Answers.{answer_of}

-- the frames of a method by slot, none if no flow comes
abbrev pub Table : Type 0
Table = List (Option PlainFrame)

-- the frame of a slot, if a flow comes there
abbrev pub frame_at : Table → ℕ → Option PlainFrame
frame_at table p = slice_get table p >>= λ f. f

-- one flow more
abbrev pub joined : Option PlainFrame → PlainFrame → PlainFrame
joined None g = g
joined (Some f) g = join f g

-- what has flowed into slot q, and a frame along an edge to slot a more
abbrev pub met : ℕ → PlainFrame → ℕ → Option PlainFrame → Option PlainFrame
met a g q inflow = if a == q then Some (joined inflow g) else inflow

-- and the frames along edges more
abbrev pub along : List (ℕ × PlainFrame) → ℕ → Option PlainFrame → Option PlainFrame
along [] q inflow = inflow
along (edge ∷ edges) q inflow = along edges q (met edge.0 edge.1 q inflow)

-- a refused slot carries no flow
abbrev pub unless_refused : Option Rule → Option PlainFrame → Option PlainFrame → Option PlainFrame
unless_refused None flown inflow = flown
unless_refused (Some rule) flown inflow = inflow

-- and the flow from slot p more, of the instruction and the frame there
abbrev pub flow_from : RuleSet → Caps → List (Option Insn) → ℕ → ℕ → Option Insn → Option PlainFrame →
    Option PlainFrame → Option PlainFrame
flow_from rules caps code p q None frame inflow = inflow
flow_from rules caps code p q (Some i) None inflow = inflow
flow_from rules caps code p q (Some i) (Some f) inflow =
    unless_refused (rule_at rules caps code p i (Some f))
    (along (flow (precision_of rules) (room_of i) (answer_of rules f i) i p f) q inflow) inflow

-- what a method begins with, at slot 0
abbrev pub start : RuleSet → Caps → ℕ → Option PlainFrame
start rules caps zero = Some (entry rules caps)
start rules caps (suc q) = None

-- the join of all that flows into slot q from the slots below n
abbrev pub incoming : RuleSet → Caps → List (Option Insn) → Table → ℕ → ℕ → Option PlainFrame
incoming rules caps code table q zero = start rules caps q
incoming rules caps code table q (suc p) =
    flow_from rules caps code p q (fetch code p) (frame_at table p) (incoming rules caps code table q p)

-- The frames of the first n slots: each is the join of all that flows into its slot from lower
-- slots.
abbrev pub frames : RuleSet → Caps → List (Option Insn) → ℕ → Table
frames rules caps code zero = []
frames rules caps code (suc q) =
    frames rules caps code q ++ (incoming rules caps code (frames rules caps code q) q q ∷ [])

-- the frames of all slots
abbrev pub whole_table : RuleSet → Caps → List (Option Insn) → Table
whole_table rules caps code = frames rules caps code (length code)

-- A table of a method's frames: at each slot the join of all that flows into it from lower slots,
-- and of what the method begins with at slot 0.
pub record IsTable (rules : RuleSet) (caps : Caps) (code : List (Option Insn)) (table : Table) : Type 0 where
  pub long : length table ≡ length code
  pub each : (q : ℕ) → q < length code → frame_at table q ≡ incoming rules caps code table q q

-- The whole table is one, and the only one.
abbrev pub TableIsOne : Type 0
TableIsOne =
    (rules : RuleSet) (caps : Caps) (code : List (Option Insn)) →
    IsTable rules caps code (whole_table rules caps code) × ((table : Table) → IsTable rules caps code table → (q : ℕ) →
    q < length code → frame_at table q ≡ frame_at (whole_table rules caps code) q)

-- the rule that refuses slot p, or else what is refused later
abbrev pub or_else : ℕ → Option Rule → Option (ℕ × Rule) → Option (ℕ × Rule)
or_else p None later = later
or_else p (Some rule) later = Some (p, rule)

-- the first slot from p on that a rule refuses, and the lowest such rule
abbrev pub first_refused : RuleSet → Caps → List (Option Insn) → Table → ℕ → List (Option Insn) → Option (ℕ × Rule)
first_refused rules caps code table p [] = None
first_refused rules caps code table p (None ∷ rest) = first_refused rules caps code table (p + 1) rest
first_refused rules caps code table p (Some i ∷ rest) =
    or_else p (rule_at rules caps code p i (frame_at table p)) (first_refused rules caps code table (p + 1) rest)

-- the first refused slot of a method's code, and the lowest rule there
abbrev pub code_verdict : RuleSet → Caps → List (Option Insn) → Option (ℕ × Rule)
code_verdict rules caps code = first_refused rules caps code (whole_table rules caps code) 0 code

-- Where the code is first refused: the slot and the lowest rule, the slot's instruction, and the
-- frame before it.
pub record IsFirstRefused (rules : RuleSet) (caps : Caps) (code : List (Option Insn)) (r : RefusedSlot) : Type 0 where
  pub verdict : code_verdict rules caps code ≡ Some (r.slot, r.rule)
  pub insn : fetch code r.slot ≡ Some r.insn
  pub known : r.known ≡ frame_at (whole_table rules caps code) r.slot

-- the same of a method of a class
abbrev pub method_verdict : RuleSet → ClassMethod → Option (ℕ × Rule)
method_verdict rules m = code_verdict rules (caps_of m) (slots m.instructions)

-- the refusal of method k, or else a later method's
abbrev pub or_later : ℕ → Option (ℕ × Rule) → Option Refusal → Option Refusal
or_later k None later = later
or_later k (Some at) later = Some (record { method = k; slot = at.0; rule = at.1 })

-- the first refusal among methods, the first of which is method k
abbrev pub verdict_from : RuleSet → ℕ → List ClassMethod → Option Refusal
verdict_from rules k [] = None
verdict_from rules k (m ∷ ms) = or_later k (method_verdict rules m) (verdict_from rules (k + 1) ms)

-- the refusal of a method by its number in the class
abbrev pub IsFirst : RuleSet → ℕ → ClassMethod → Refusal → Type 0
IsFirst rules number m r = (r.method ≡ number) × (method_verdict rules m ≡ Some (r.slot, r.rule))

-- The verdict: the first method with a refusal, its lowest refused slot, and at it the lowest rule.
abbrev pub class_verdict : Class → Option Refusal
class_verdict c = verdict_from c.rules 0 c.methods

-- the refusal that says nothing of the class: memory was refused
abbrev pub out_of_memory : Refusal
out_of_memory = record { method = 0; slot = 0; rule = NoMemory }

-- Of a class of rule set 1 the verdict is never the rule about pointers' bytes.
abbrev pub FirstSetHasFewerRules : Type 0
FirstSetHasFewerRules = (c : Class) (r : Refusal) → c.rules ≡ One → class_verdict c ≡ Some r → r.rule ≢ PointerBytes

-- A rule refuses the instruction at a slot of a method, by the table of rules and the frame there.
pub record Refuses (rules : RuleSet) (m : ClassMethod) (slot : ℕ) (rule : Rule) : Type 0 where
  pub insn : Insn
  pub there : fetch (slots m.instructions) slot ≡ Some insn
  pub refused : breaks rules (caps_of m) (slots m.instructions) slot insn
      (frame_at (whole_table rules (caps_of m) (slots m.instructions)) slot) rule ≡ true

-- A refusal's rule refuses the instruction at its slot of its method.
pub record IsDeserved (c : Class) (r : Refusal) : Type 0 where
  pub method : ClassMethod
  pub there : slice_get c.methods r.method ≡ Some method
  pub refuses : Refuses c.rules method r.slot r.rule
