use Rattle.std.proofs.Common.{◌-◌}
use Rattle.bpf_decode.proofs.Loop.{Counts}
use Rattle.bpf_decode.proofs.code.count.Given as goal

abbrev pub invariant-loop-slot : goal.invariant-loop-slot
invariant-loop-slot l = Counts l.bytes l.count l.slot

abbrev pub decreases-loop-slot : goal.decreases-loop-slot
decreases-loop-slot l = l.slots - l.slot
