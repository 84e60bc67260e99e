-- The frames of a method with heads: at each slot the join of all that flows into it from lower slots, and at a head
-- that with what is declared there. What goes back to a head is no part of it: the verdict compares it.
use Rattle.std.specs.Prelude.{ℕ, zero, suc, List, [], ◌∷◌, ◌++◌, Option, Some, None, length}
use Rattle.std.specs.Option.{option_map}
use Rattle.bpf_decode.specs.declared.insn.Insn.{Insn}
use Rattle.bpf_decode.specs.declared.rule_set.RuleSet.TheVariants.{Three}
use Rattle.bpf_machine.specs.declared.caps.Caps.{Caps}
use Rattle.bpf_machine.specs.Typed.{fetch}
use Rattle.abstract_num.specs.declared.precision.Precision.TheVariants.{Halves}
use Rattle.abstract_regs.specs.Frame.{PlainFrame}
use Rattle.verifier.specs.Rules.{room_of}
use Rattle.verifier.specs.Answers.{answer_of}
use Rattle.verifier.specs.Verdict.{Table, frame_at, along, unless_refused, start}
use Rattle.loop_heads.specs.declared.place.HeadPlace.{HeadPlace}
use Rattle.loop_heads.specs.Loops.{PlainHead, head_at}
use Rattle.loop_frames.specs.Heads.{head_frame}
use Rattle.loop_frames.specs.Pairs.{loop_flow}
use Rattle.loop_tables.specs.Rules.{rule_below}

-- the edges of an instruction, by its frame
abbrev pub edges_at : Caps → Insn → ℕ → PlainFrame → List (ℕ × PlainFrame)
edges_at caps i p f = loop_flow Halves caps (room_of i) (answer_of Three f i) i p f

-- the flow from slot p into slot q more, of the instruction and the frame there; a refused slot carries none
abbrev pub flow_below : Caps → List PlainHead → List (Option Insn) → ℕ → ℕ → Option Insn → Option PlainFrame →
    Option PlainFrame → Option PlainFrame
flow_below caps heads code p q None frame inflow = inflow
flow_below caps heads code p q (Some i) None inflow = inflow
flow_below caps heads code p q (Some i) (Some f) inflow =
    unless_refused (rule_below caps heads code p i (Some f)) (along (edges_at caps i p f) q inflow) inflow

-- the join of all that flows into slot q from the slots below n, and into slot 0 of what the method begins with
abbrev pub incoming_below : Caps → List PlainHead → List (Option Insn) → Table → ℕ → ℕ → Option PlainFrame
incoming_below caps heads code table q zero = start Three caps q
incoming_below caps heads code table q (suc p) =
    flow_below caps heads code p q (fetch code p) (frame_at table p) (incoming_below caps heads code table q p)

-- at a head what is declared there is joined to what flows there; a head to which nothing flows has no frame
abbrev pub with_head : Option (List HeadPlace) → Option PlainFrame → Option PlainFrame
with_head None inflow = inflow
with_head (Some places) inflow = option_map (head_frame Halves places) inflow

-- the frames of the first n slots
abbrev pub loop_frames : Caps → List PlainHead → List (Option Insn) → ℕ → Table
loop_frames caps heads code zero = []
loop_frames caps heads code (suc q) =
    let before = loop_frames caps heads code q in
    before ++ (with_head (head_at heads q) (incoming_below caps heads code before q q) ∷ [])

-- and of all slots
abbrev pub loop_table : Caps → List PlainHead → List (Option Insn) → Table
loop_table caps heads code = loop_frames caps heads code (length code)
