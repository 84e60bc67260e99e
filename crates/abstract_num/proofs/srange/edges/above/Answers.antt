use Rattle.std.proofs.Common.{rules}
use Rattle.abstract_num.specs.proved.SignedFacts.{above_crosses}
use Rattle.abstract_num.proofs.srange.edges.above.Goals as goal

pub returns-then-left-right : goal.returns-then-left-right
returns-then-left-right c = above_crosses c.args.left.low c.args.left.high c.args.right.low c.args.right.high (search rules)
