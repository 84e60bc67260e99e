use Rattle.std.proofs.Common.{rules}
use Rattle.bpf_asm.proofs.disassembler.disassemble_with_slots.Goals as goal

pub returns-clause-text : goal.returns-clause-text
returns-clause-text c = search rules
