use Rattle.std.proofs.Common.{take}
use Rattle.std.specs.List.{AllByRecursion}
use Rattle.bpf_decode.specs.Class.{LoopsHold}
use Rattle.loop_asm.proofs.whole.all_hold.Given as goal

abbrev pub invariant-loop-one : goal.invariant-loop-one
invariant-loop-one l = AllByRecursion LoopsHold (take l.one-index l.loops)
