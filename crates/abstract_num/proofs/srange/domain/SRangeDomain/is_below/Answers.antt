use Rattle.std.proofs.Common.{arith}
use Rattle.std.proofs.lemmas.Grind.{common_steps}
use Rattle.abstract_num.proofs.srange.domain.SRangeDomain.is_below.Goals as goal

pub returns-else-other-self : goal.returns-else-other-self
returns-else-other-self c = grind (arith, common_steps)

pub returns-then-other-self : goal.returns-then-other-self
returns-then-other-self c = grind (arith, common_steps)
