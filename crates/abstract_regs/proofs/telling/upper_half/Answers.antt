use Rattle.std.proofs.Common.{arith}
use Rattle.std.proofs.lemmas.Int.{ints}
use Rattle.abstract_regs.proofs.telling.upper_half.Goals as goal

pub returns : goal.returns
returns c = grind (arith, ints)
