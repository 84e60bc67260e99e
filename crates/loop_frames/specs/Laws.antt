-- What is proved of frames at heads, of the order, and of pairs of pointers.
use Rattle.std.specs.Prelude.{◌≡◌, ℕ, List, Option, Some, true, false, length}
use Rattle.bpf_decode.specs.declared.insn.Insn.{Insn}
use Rattle.bpf_decode.specs.Instruction.{Fits}
use Rattle.bpf_decode.specs.declared.value.Value.{Value}
use Rattle.abstract_num.specs.declared.precision.Precision.{Precision}
use Rattle.abstract_regs.specs.Frame.{PlainFrame, HoldsEach}
use Rattle.abstract_regs.specs.Moves.{EachFits, HoldsLinks, NamesBelow, Reaches}
use Rattle.bpf_machine.specs.declared.caps.Caps.{Caps}
use Rattle.bpf_machine.specs.Typed.{Typed}
use Rattle.loop_heads.specs.declared.place.HeadPlace.{HeadPlace}
use Rattle.loop_machine.specs.Typed.{pair_act}
use Rattle.loop_frames.specs.declared.place.TheConstants.{PLACES}
use Rattle.loop_frames.specs.Heads.{head_frame}
use Rattle.loop_frames.specs.Below.{is_frame_below}
use Rattle.loop_frames.specs.Pairs.{PointerPair, pair_of, pair_edges, writes_r10}

-- what a frame is true of
pub record IsTrueOf (f : PlainFrame) (cs vs : List (Option Value)) : Type 0 where
  pub registers : HoldsEach f.registers cs
  pub slots : HoldsEach f.slots vs
  pub links : HoldsLinks f cs vs

-- The frame at a head is true of what the frame that flows there is true of; it has as many places, and no names.
pub record HeadKeeps (precision : Precision) (places : List HeadPlace) (f : PlainFrame) : Type 0 where
  pub keeps : (cs vs : List (Option Value)) → IsTrueOf f cs vs → IsTrueOf (head_frame precision places f) cs vs
  pub slots : length (head_frame precision places f).slots ≡ length f.slots
  pub registers : length (head_frame precision places f).registers ≡ length f.registers
  pub links : length (head_frame precision places f).links ≡ length f.links
  pub names : (p : ℕ) → NamesBelow p (head_frame precision places f)

abbrev pub HeadsKeep : Type 0
HeadsKeep = (precision : Precision) (places : List HeadPlace) (f : PlainFrame) → HeadKeeps precision places f

-- a frame of rule set 3: eleven registers, 64 slots, and a link for each of these places
pub record IsWhole (f : PlainFrame) : Type 0 where
  pub registers : length f.registers ≡ 11
  pub slots : length f.slots ≡ 64
  pub links : length f.links ≡ PLACES

-- A greater frame is true of what a smaller one is true of.
abbrev pub GreaterKeeps : Type 0
GreaterKeeps =
    (f g : PlainFrame) → IsWhole f → IsWhole g → is_frame_below f g ≡ true →
    (cs vs : List (Option Value)) → IsTrueOf f cs vs → IsTrueOf g cs vs

-- The step of an instruction with a pair of pointers: it is made, changes registers alone, and one of its edges is
-- true of the state after it.
pub record PairSteps (precision : Precision) (caps : Caps) (f : PlainFrame) (i : Insn) (s : Typed)
    (vs : List (Option Value)) (pair : PointerPair) : Type 0 where
  pub to : Typed
  pub act : pair_act caps i s ≡ Some to
  pub rest : to ≡ record s { slot = to.slot; regs = to.regs }
  pub reaches : Reaches (pair_edges precision i s.slot f pair) to.slot to.regs vs

-- That is so of every state that the frame is true of; the last register isn't taken from.
abbrev pub PairsStep : Type 0
PairsStep =
    (precision : Precision) (caps : Caps) (f : PlainFrame) (i : Insn) (s : Typed) (vs : List (Option Value))
    (pair : PointerPair) → Fits i → writes_r10 i ≡ false → EachFits f.registers → length f.registers ≡ 11 →
    IsTrueOf f s.regs vs → pair_of caps f i ≡ Some pair → PairSteps precision caps f i s vs pair
