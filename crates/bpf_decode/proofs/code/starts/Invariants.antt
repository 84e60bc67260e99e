use Rattle.std.proofs.Common.{◌≡◌, take}
use Rattle.bpf_decode.specs.Class.{starts}
use Rattle.bpf_decode.proofs.code.starts.Given as goal

abbrev pub invariant-loop-insn : goal.invariant-loop-insn
invariant-loop-insn l = l.starts.items ≡ starts (take l.insn-index l.insns)
