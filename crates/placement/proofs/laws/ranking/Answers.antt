use Rattle.placement.proofs.Ranks.{ranked-is_ranking}
use Rattle.placement.proofs.laws.ranking.Goals as goal

pub returns : goal.returns
returns c = ranked-is_ranking
