-- The rules of one instruction of a method with heads, but for what goes back to a head. Such methods have rule set 3.
use Rattle.std.specs.Prelude.{ℕ, List, Option, Some, None, Bool, if◌then◌else◌, ◌&&◌, not, is_some}
use Rattle.bpf_decode.specs.declared.insn.Insn.{Insn}
use Rattle.bpf_decode.specs.declared.rule_set.RuleSet.TheVariants.{Three}
use Rattle.bpf_machine.specs.declared.caps.Caps.{Caps}
use Rattle.abstract_regs.specs.Frame.{PlainFrame}
use Rattle.abstract_regs.specs.Flow.{target}
use Rattle.verifier.specs.declared.rule.Rule.{Rule}
use Rattle.verifier.specs.declared.rule.Rule.TheVariants.{Backward, Target, FallsOff, LocalCall, WritesR10}
use Rattle.verifier.specs.Facets.{goes_of}
use Rattle.verifier.specs.Rules.{jumps, is_backward, misses, falls_off, is_local_call, writes_r10, frame_rule}
use Rattle.loop_heads.specs.Loops.{PlainHead, head_at}
use Rattle.loop_frames.specs.Pairs.{PointerPair, pair_of}

-- a backward jump to a slot that is no head
abbrev pub misses_head : List PlainHead → ℕ → Insn → Bool
misses_head heads p i =
    is_backward i && jumps (λ distance. not (is_some (head_at heads (target p distance)))) (goes_of i)

-- rules 1 to 4
abbrev pub shape_below : List PlainHead → List (Option Insn) → ℕ → Insn → Option Rule
shape_below heads code p i =
    if misses_head heads p i then Some Backward else
    if misses code p i then Some Target else
    if falls_off code p i then Some FallsOff else
    if is_local_call i then Some LocalCall else None

-- the rules of the frame; of an instruction with a pair of pointers, which are set and not forbidden to it, the one
-- about register 10 alone
abbrev pub frame_below : Caps → PlainFrame → Insn → Option PointerPair → Option Rule
frame_below caps f i None = frame_rule Three caps f i
frame_below caps f i (Some pair) = if writes_r10 i then Some WritesR10 else None

-- the frame's rule, if no other refuses, and there is a frame
abbrev pub or_frame : Option Rule → Option PlainFrame → (PlainFrame → Option Rule) → Option Rule
or_frame (Some rule) frame rule_of = Some rule
or_frame None None rule_of = None
or_frame None (Some f) rule_of = rule_of f

-- the lowest rule that refuses the instruction at a slot, with its frame, if it has one
abbrev pub rule_below : Caps → List PlainHead → List (Option Insn) → ℕ → Insn → Option PlainFrame → Option Rule
rule_below caps heads code p i frame =
    or_frame (shape_below heads code p i) frame (λ f. frame_below caps f i (pair_of caps f i))
