use Rattle.bpf_decode.proofs.ImageLoop.{Along}
use Rattle.bpf_decode.proofs.image.methods_at.Given as goal

abbrev pub invariant-loop-done : goal.invariant-loop-done
invariant-loop-done l = Along l.rules l.bytes l.methods.items l.done l.before l.rest
