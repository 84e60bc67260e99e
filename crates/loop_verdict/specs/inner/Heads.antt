-- The code's own; no promise of the crate rests on it.
-- The frames that are kept for heads, until the pass ends.
use Rattle.std.specs.Prelude.{ℕ, List, Option, Some, None, ◌==◌, slice_set, map}
use Rattle.std.specs.List.{position}
use Rattle.bpf_machine.specs.State.{◌>>=◌}
use Rattle.abstract_regs.specs.Frame.{PlainFrame}
use Rattle.verifier.specs.Verdict.{Table, frame_at}
use Rattle.loop_heads.specs.Loops.{PlainHead}

-- the slots of heads
abbrev pub head_slots : List PlainHead → List ℕ
head_slots heads = map (λ h. h.slot) heads

-- the place of a head among others, by its slot
abbrev pub place_of : List ℕ → ℕ → Option ℕ
place_of slots q = position (λ s. s == q) slots

-- the frame of the head at slot q
abbrev pub frame_of : List ℕ → Table → ℕ → Option PlainFrame
frame_of slots frames q = place_of slots q >>= frame_at frames

-- the frames with another one at a place
abbrev pub with_frame : Table → Option PlainFrame → Option ℕ → Table
with_frame frames frame None = frames
with_frame frames frame (Some k) = slice_set frames k frame
