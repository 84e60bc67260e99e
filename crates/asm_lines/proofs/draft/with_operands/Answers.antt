use Rattle.std.proofs.Common.{arith}
use Rattle.std.proofs.lemmas.Grind.{common_steps}
use Rattle.asm_lines.proofs.draft.with_operands.Goals as goal

pub returns-in_ok-dst-in-Branch : goal.returns-in_ok-dst-in-Branch
returns-in_ok-dst-in-Branch c = grind (arith, common_steps)

pub returns-in_err-dst-in-Branch : goal.returns-in_err-dst-in-Branch
returns-in_err-dst-in-Branch c = grind (arith, common_steps)
