-- The code's own; no promise of the crate rests on it.
-- A step of the code: what the pass has between two slots, the frame at hand, those that are kept for jumps' targets,
-- and those of the heads that it has met.
use Rattle.std.specs.Prelude.{◌≡◌, ℕ, ◌+◌, ◌<◌, List, [], ◌∷◌, Option, Some, None, Bool, true, length, nat_le, ◌&&◌}
use Rattle.std.specs.Prelude.{◌||◌, not, if◌then◌else◌, slice_set}
use Rattle.bpf_decode.specs.declared.insn.Insn.{Insn}
use Rattle.bpf_decode.specs.Instruction.{slot_count}
use Rattle.bpf_machine.specs.declared.caps.Caps.{Caps}
use Rattle.bpf_machine.specs.Typed.{fetch}
use Rattle.abstract_regs.specs.Frame.{PlainFrame, kind_at}
use Rattle.abstract_regs.specs.Flow.{edge_to}
use Rattle.abstract_regs.specs.Moves.{KindFits}
use Rattle.verifier.specs.declared.rule.Rule.{Rule}
use Rattle.verifier.specs.declared.rule.Rule.TheVariants.{Backward}
use Rattle.verifier.specs.Verdict.{Table, frame_at, along}
use Rattle.verifier.specs.inner.Kept.{unbox}
use Rattle.verifier.specs.inner.Pass.{fallen}
use Rattle.loop_heads.specs.declared.place.HeadPlace.{HeadPlace}
use Rattle.loop_heads.specs.Loops.{PlainHead, head_at}
use Rattle.loop_frames.specs.Pairs.{PointerPair, pair_of}
use Rattle.loop_tables.specs.Rules.{rule_below}
use Rattle.loop_tables.specs.Table.{edges_at, with_head, loop_table}
use Rattle.loop_tables.specs.Verdict.{is_kept, or_back}
use Rattle.loop_verdict.specs.declared.heads.HeadFrames.{HeadFrames}
use Rattle.loop_verdict.specs.declared.flows.Back.{Back}
use Rattle.loop_verdict.specs.declared.flows.Flows.{Flows}
use Rattle.loop_verdict.specs.declared.pass.HeadPass.{HeadPass}
use Rattle.loop_verdict.specs.inner.Heads.{frame_of, place_of, with_frame}

-- the frame that is kept for the head at slot q
abbrev pub kept_for : HeadFrames → ℕ → Option PlainFrame
kept_for heads q = frame_of heads.slots.items heads.frames.items q

-- each edge that goes back, to slot p or a lower one, is below the frame there
abbrev pub keeps : (ℕ → Option PlainFrame) → ℕ → List (ℕ × PlainFrame) → Bool
keeps frame p [] = true
keeps frame p (edge ∷ edges) = (not (nat_le edge.0 p) || is_kept edge.1 (frame edge.0)) && keeps frame p edges

-- so of what goes back, if a flow does
abbrev pub keeps_back : (ℕ → Option PlainFrame) → Option Back → Bool
keeps_back frame None = true
keeps_back frame (Some back) = is_kept back.frame.value (frame back.target)

-- what is kept of the flows into the slots to come, once a flow from slot p, which may be dead, went to slot a; one
-- that goes back is given back
pub record HasSent (old : Table) (p a : ℕ) (x : Option PlainFrame) (new : Table) (back : Option Back) : Type 0 where
  pub size : length new ≡ length old
  pub flows : (q : ℕ) → p < q → q < length old → frame_at new q ≡ along (edge_to a x) q (frame_at old q)
  pub back_is : (frame : ℕ → Option PlainFrame) → keeps_back frame back ≡ keeps frame p (edge_to a x)

-- the same, once all edges from slot p are taken; `y` falls through to the slot `next`
pub record HasGone (old : Table) (p next : ℕ) (edges : List (ℕ × PlainFrame)) (y : Option PlainFrame) (new : Table)
    (back : Option Back) : Type 0 where
  pub size : length new ≡ length old
  pub flows : (q : ℕ) → p < q → q < length old → fallen y next q (frame_at new q) ≡ along edges q (frame_at old q)
  pub back_is : (frame : ℕ → Option PlainFrame) → keeps_back frame back ≡ keeps frame p edges

-- what a pass has of the flows into slot q
abbrev pub awaited : Flows → ℕ → Option PlainFrame
awaited flows q = fallen (unbox flows.current) flows.landing q (frame_at flows.pending q)

-- the edges of an instruction whose frame is given, if there is one
abbrev pub edges_if : Caps → Insn → ℕ → Option PlainFrame → List (ℕ × PlainFrame)
edges_if caps i p None = []
edges_if caps i p (Some f) = edges_at caps i p f

-- what a pass has once instruction i at slot p, whose frame is given, has flowed on, and what goes back
pub record HasLeft (caps : Caps) (frame : Option PlainFrame) (old : Table) (i : Insn) (p : ℕ) (flows : Flows)
    (back : Option Back) : Type 0 where
  pub landing : flows.landing ≡ p + slot_count i
  pub gone : HasGone old p (p + slot_count i) (edges_if caps i p frame) (unbox flows.current) flows.pending back

-- the rule of an instruction that no other refuses: what goes back has to be kept
abbrev pub back_of : Bool → Option Rule
back_of kept = if kept then None else Some Backward

-- the pair of an instruction, by some capacities
abbrev pub HasPair : Insn → PlainFrame → PointerPair → Type 0
HasPair i f pair = (caps : Caps) × (pair_of caps f i ≡ Some pair)

-- the numbers of the registers are below 2 ^ 64
abbrev pub FitsEach : PlainFrame → Type 0
FitsEach f = (r : ℕ) → r < 11 → KindFits (kind_at f r)

abbrev pub FitsIf : Option PlainFrame → Type 0
FitsIf None = Unit {0}
FitsIf (Some f) = FitsEach f

-- so of the frame of each slot at which an instruction begins
abbrev pub AllFit : Caps → List PlainHead → List (Option Insn) → Type 0
AllFit caps heads code =
    (p : ℕ) (i : Insn) → fetch code p ≡ Some i → FitsIf (frame_at (loop_table caps heads code) p)

-- what is kept of heads, once the pass has entered slot p with a frame there
abbrev pub HasEntered : Option (List HeadPlace) → ℕ → HeadFrames → Option PlainFrame → HeadFrames → Type 0
HasEntered None p old frame new = new ≡ old
HasEntered (Some places) p old frame new =
    (new.slots.items ≡ old.slots.items) ×
    (new.frames.items ≡ with_frame old.frames.items frame (place_of old.slots.items p))

-- the frame that the pass finds at slot p
abbrev pub found : List PlainHead → HeadPass → ℕ → Option PlainFrame
found heads pass p = with_head (head_at heads p) (awaited pass.flows p)

-- what the pass has once it visited instruction i at slot p, and the rule that refuses it
pub record HasVisited (caps : Caps) (heads : List PlainHead) (code : List (Option Insn)) (i : Insn) (p : ℕ)
    (old new : HeadPass) (r : Option Rule) : Type 0 where
  pub entered : HeadFrames
  pub heads_are : HasEntered (head_at heads p) p old.heads (found heads old p) entered
  pub heads_stay : new.heads ≡ entered
  pub back : Option Back
  pub rule : r ≡
      or_back (rule_below caps heads code p i (found heads old p)) (back_of (keeps_back (kept_for entered) back))
  pub left : rule_below caps heads code p i (found heads old p) ≡ None →
      HasLeft caps (found heads old p) (slice_set old.flows.pending p None) i p new.flows back
  pub fits : FitsIf (found heads old p)
