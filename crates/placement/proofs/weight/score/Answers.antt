use Rattle.std.proofs.Common.{rules}
use Rattle.placement.proofs.weight.score.Goals as goal

-- turned by score_of_the_node_alone
pub returns : goal.returns
returns c = search rules
