use Rattle.std.proofs.Common.{rules}
use Rattle.peering.proofs.node.serve.least_of.Goals as goal

-- turned by reply_before_all_acknowledged
pub returns-clause-value : goal.returns-clause-value
returns-clause-value c = search rules
