use Rattle.std.proofs.Common.{◌-◌}
use Rattle.bpf_decode.proofs.Loop.{Progress}
use Rattle.bpf_decode.proofs.code.read.Given as goal

abbrev pub invariant-loop-slot : goal.invariant-loop-slot
invariant-loop-slot l = Progress l.bytes l.insns.items l.slot

abbrev pub decreases-loop-slot : goal.decreases-loop-slot
decreases-loop-slot l = l.slots - l.slot
