use Rattle.std.proofs.Common.{rules, arith}
use Rattle.std.proofs.lemmas.Grind.{common_steps}
use Rattle.peering.proofs.node.GroupNode.decided.Goals as goal

-- turned by adopts_its_own_log
pub returns-then-leads-clause-ok : goal.returns-then-leads-clause-ok
returns-then-leads-clause-ok g c = search rules

pub returns-then-get-clause-ok : goal.returns-then-get-clause-ok
returns-then-get-clause-ok g c = grind (arith, common_steps)

pub returns-then-has-clause-ok : goal.returns-then-has-clause-ok
returns-then-has-clause-ok g c = grind (arith, common_steps)

pub returns-clause-ok : goal.returns-clause-ok
returns-clause-ok g c = grind (arith, common_steps)
