use Rattle.abstract_num.proofs.Pairs.{by_parts}
use Rattle.abstract_num.proofs.refining.by_fact.Goals as goal

pub returns : goal.returns
returns c = by_parts c.args.fact c.args.x c.args.y c.refine.result c.refine.ensures
