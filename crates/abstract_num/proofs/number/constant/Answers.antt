use Rattle.std.proofs.Common.{arith}
use Rattle.std.proofs.lemmas.Grind.{common_steps}
use Rattle.abstract_num.proofs.number.constant.Goals as goal

pub returns-clause-holds : goal.returns-clause-holds
returns-clause-holds c = grind (arith, common_steps)
