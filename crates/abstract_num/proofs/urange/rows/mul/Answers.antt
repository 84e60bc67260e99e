use Rattle.std.proofs.Common.{arith}
use Rattle.std.proofs.lemmas.Grind.{common_steps}
use Rattle.abstract_num.proofs.urange.rows.mul.Goals as goal

pub overflow_mul-left : goal.overflow_mul-left
overflow_mul-left c = grind (arith, common_steps)
