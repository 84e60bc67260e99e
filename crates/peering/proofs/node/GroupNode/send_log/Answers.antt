use Rattle.std.proofs.Common.{rules}
use Rattle.peering.proofs.node.GroupNode.send_log.Goals as goal

-- turned by answers_query_before_it_moves
pub returns-clause-ok : goal.returns-clause-ok
returns-clause-ok g c = search rules
