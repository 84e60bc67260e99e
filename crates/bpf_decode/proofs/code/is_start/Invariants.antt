use Rattle.bpf_decode.proofs.Starts.{Tells}
use Rattle.bpf_decode.proofs.code.is_start.Given as goal

abbrev pub invariant-loop-insn : goal.invariant-loop-insn
invariant-loop-insn l = Tells l.insns l.insn-index l.at l.slot
