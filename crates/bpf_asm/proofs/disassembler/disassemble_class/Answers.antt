use Rattle.std.proofs.Common.{rules}
use Rattle.bpf_asm.proofs.disassembler.disassemble_class.Goals as goal

-- turned by disassemble_class_nothing
pub returns-clause-text : goal.returns-clause-text
returns-clause-text c = search rules
