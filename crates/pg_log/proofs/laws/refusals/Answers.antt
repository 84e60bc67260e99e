use Rattle.pg_log.proofs.Exact.{follows_unrefused, unrefused, lists_exact}
use Rattle.pg_log.proofs.laws.refusals.Goals as goal

pub returns-clause-requests : goal.returns-clause-requests
returns-clause-requests c = λ classes xs r. (follows_unrefused classes xs r, unrefused classes xs r)

pub returns-clause-lists : goal.returns-clause-lists
returns-clause-lists c = lists_exact
