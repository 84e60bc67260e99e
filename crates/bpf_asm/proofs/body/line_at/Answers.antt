use Rattle.std.proofs.Common.{arith}
use Rattle.std.proofs.lemmas.Grind.{common_steps}
use Rattle.bpf_asm.proofs.body.line_at.Goals as goal

pub returns-in-Instruction-clause-room : goal.returns-in-Instruction-clause-room
returns-in-Instruction-clause-room c = grind (arith, common_steps)

pub returns-in-Instruction-clause-some : goal.returns-in-Instruction-clause-some
returns-in-Instruction-clause-some c = grind (arith, common_steps)
