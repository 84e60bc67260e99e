use Rattle.std.proofs.Common.{◌≡◌, drop}
use Rattle.loop_frames.specs.Heads.{all_declared}
use Rattle.loop_frames.proofs.head.declare.Given as goal

abbrev pub invariant-loop-place : goal.invariant-loop-place
invariant-loop-place l =
    all_declared l.precision (drop l.place-index l.places) l.frame ≡ all_declared l.precision l.places l.fn.frame
