-- The verdict on a method with loops: its lowest refused slot, and there the lowest rule. What goes back to a head has
-- to be below the frame there.
use Rattle.std.specs.Prelude.{ℕ, ◌+◌, List, [], ◌∷◌, Option, Some, None, Bool, true, false, if◌then◌else◌}
use Rattle.std.specs.Prelude.{nat_le, ◌&&◌, ◌||◌, not}
use Rattle.bpf_decode.specs.declared.insn.Insn.{Insn}
use Rattle.bpf_decode.specs.declared.rule_set.RuleSet.{RuleSet}
use Rattle.bpf_decode.specs.Class.{ClassMethod}
use Rattle.bpf_decode.specs.Instruction.{slots}
use Rattle.bpf_machine.specs.declared.caps.Caps.{Caps}
use Rattle.bpf_machine.specs.Safe.{caps_of}
use Rattle.abstract_regs.specs.Frame.{PlainFrame}
use Rattle.verifier.specs.declared.rule.Rule.{Rule}
use Rattle.verifier.specs.declared.rule.Rule.TheVariants.{Backward}
use Rattle.verifier.specs.Verdict.{Table, frame_at, or_else, method_verdict}
use Rattle.loop_heads.specs.Loops.{PlainHead, PlainLoops}
use Rattle.loop_frames.specs.Below.{is_frame_below}
use Rattle.loop_tables.specs.Rules.{rule_below}
use Rattle.loop_tables.specs.Table.{edges_at, loop_table}

-- what flows along an edge is below the frame where it goes
abbrev pub is_kept : PlainFrame → Option PlainFrame → Bool
is_kept g None = false
is_kept g (Some f) = is_frame_below g f

-- each edge that goes back, to the slot itself or a lower one, is kept
abbrev pub are_kept : Table → ℕ → List (ℕ × PlainFrame) → Bool
are_kept table p [] = true
are_kept table p (edge ∷ edges) =
    (not (nat_le edge.0 p) || is_kept edge.1 (frame_at table edge.0)) && are_kept table p edges

-- the rule of a jump that goes back, if nothing else refuses it
abbrev pub back_rule : Caps → Table → ℕ → Insn → Option PlainFrame → Option Rule
back_rule caps table p i None = None
back_rule caps table p i (Some f) = if are_kept table p (edges_at caps i p f) then None else Some Backward

abbrev pub or_back : Option Rule → Option Rule → Option Rule
or_back None other = other
or_back (Some rule) other = Some rule

-- the lowest rule that refuses the instruction at a slot
abbrev pub loop_rule : Caps → List PlainHead → List (Option Insn) → Table → ℕ → Insn → Option Rule
loop_rule caps heads code table p i =
    or_back (rule_below caps heads code p i (frame_at table p)) (back_rule caps table p i (frame_at table p))

-- the first slot from p on that a rule refuses, and the lowest such rule
abbrev pub first_in_loops : Caps → List PlainHead → List (Option Insn) → Table → ℕ → List (Option Insn) →
    Option (ℕ × Rule)
first_in_loops caps heads code table p [] = None
first_in_loops caps heads code table p (None ∷ rest) = first_in_loops caps heads code table (p + 1) rest
first_in_loops caps heads code table p (Some i ∷ rest) =
    or_else p (loop_rule caps heads code table p i) (first_in_loops caps heads code table (p + 1) rest)

-- the first refused slot of a method with heads, of rule set 3
abbrev pub loop_verdict : Caps → List PlainHead → List (Option Insn) → Option (ℕ × Rule)
loop_verdict caps heads code = first_in_loops caps heads code (loop_table caps heads code) 0 code

-- The verdict on a method: without heads `verify`'s; heads there are in rule set 3 alone.
abbrev pub verdict_by_heads : RuleSet → ClassMethod → Option PlainLoops → Option (ℕ × Rule)
verdict_by_heads rules m None = method_verdict rules m
verdict_by_heads rules m (Some l) = loop_verdict (caps_of m) l.heads (slots m.instructions)
