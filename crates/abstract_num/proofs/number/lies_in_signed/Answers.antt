use Rattle.std.proofs.Common.{arith}
use Rattle.std.proofs.lemmas.Grind.{common_steps}
use Rattle.abstract_num.proofs.number.lies_in_signed.Goals as goal

pub returns-else-range-cast_signed : goal.returns-else-range-cast_signed
returns-else-range-cast_signed c = grind (arith, common_steps)

pub returns-then-range-cast_signed : goal.returns-then-range-cast_signed
returns-then-range-cast_signed c = grind (arith, common_steps)
