use Rattle.std.proofs.Common.{rules}
use Rattle.abstract_regs.proofs.kind.Kind.join.Goals as goal

-- turned by join_tightened
pub returns-in-Num-Num : goal.returns-in-Num-Num
returns-in-Num-Num c = search rules
