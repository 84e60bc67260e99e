use Rattle.std.proofs.Common.{take}
use Rattle.std.specs.List.{AllByRecursion}
use Rattle.loop_bytes.specs.HeadBytes.{KindFits}
use Rattle.loop_bytes.proofs.writing.head_fits.Given as goal

abbrev pub invariant-loop-place : goal.invariant-loop-place
invariant-loop-place l = AllByRecursion (λ p. KindFits p.kind) (take l.place-index l.place-items)
