use Rattle.std.proofs.Common.{arith}
use Rattle.std.proofs.lemmas.Grind.{common_steps}
use Rattle.abstract_num.proofs.srange.edges.other_than.Goals as goal

pub raised-requires : goal.raised-requires
raised-requires c = grind (arith, common_steps)

pub lowered-requires : goal.lowered-requires
lowered-requires c = grind (arith, common_steps)

pub returns-then-left-c : goal.returns-then-left-c
returns-then-left-c c = grind (arith, common_steps)
