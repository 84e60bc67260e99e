use Rattle.std.proofs.Common.{rules}
use Rattle.abstract_regs.proofs.kind.Kind.alu.Goals as goal

-- turned by pointer_less_a_number_added
pub returns-in-Ptr-Num : goal.returns-in-Ptr-Num
returns-in-Ptr-Num c = search rules
