use Rattle.std.proofs.Common.{take}
use Rattle.std.specs.List.{AllByRecursion}
use Rattle.loop_bytes.specs.HeadBytes.{HeadFits}
use Rattle.loop_bytes.proofs.writing.fits.Given as goal

abbrev pub invariant-loop-head : goal.invariant-loop-head
invariant-loop-head l = AllByRecursion HeadFits (take l.head-index l.heads)
