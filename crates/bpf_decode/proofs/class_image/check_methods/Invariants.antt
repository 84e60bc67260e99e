use Rattle.bpf_decode.proofs.ClassLoop.{Progress}
use Rattle.bpf_decode.proofs.class_image.check_methods.Given as goal

abbrev pub invariant-loop-done : goal.invariant-loop-done
invariant-loop-done l = Progress l.rules l.methods l.done l.before
