use Rattle.std.proofs.Common.{◌≡◌, true}
use Rattle.loop_frames.specs.Below.{are_places_below}
use Rattle.loop_frames.proofs.below.is_frame_below.Given as goal

abbrev pub invariant-loop-place : goal.invariant-loop-place
invariant-loop-place l = are_places_below l.f l.g l.place ≡ true
