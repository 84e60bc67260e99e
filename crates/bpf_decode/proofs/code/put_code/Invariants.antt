use Rattle.std.proofs.Common.{◌≡◌, ◌++◌, take}
use Rattle.bpf_decode.specs.Instruction.{AllFit, spelling}
use Rattle.bpf_decode.proofs.code.put_code.Given as goal

abbrev pub invariant-loop-insn : goal.invariant-loop-insn
invariant-loop-insn l = record { spelled : l.out.items ≡ l.initial.out.items ++ spelling (take l.insn-index l.insns); fit : AllFit (take l.insn-index l.insns) }
