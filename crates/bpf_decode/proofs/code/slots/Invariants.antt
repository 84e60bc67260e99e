use Rattle.std.proofs.Common.{◌≡◌, ◌≤◌, ◌*◌, take}
use Rattle.bpf_decode.specs.Instruction.{AllFit, slot_total}
use Rattle.bpf_decode.proofs.code.slots.Given as goal

abbrev pub invariant-loop-insn : goal.invariant-loop-insn
invariant-loop-insn l = record { total : l.total ≡ slot_total (take l.insn-index l.insns); few : l.total ≤ 2 * l.insn-index; fit : AllFit (take l.insn-index l.insns) }
