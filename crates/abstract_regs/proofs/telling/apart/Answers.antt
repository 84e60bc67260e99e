use Rattle.std.proofs.Common.{arith}
use Rattle.abstract_regs.proofs.telling.apart.Goals as goal

pub returns : goal.returns
returns c = omega arith
