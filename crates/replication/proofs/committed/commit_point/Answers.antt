use Rattle.replication.proofs.Least.{least_first, least_beside_own}
use Rattle.replication.proofs.committed.commit_point.Goals as goal

pub returns-clause-least : goal.returns-clause-least
returns-clause-least c = least_first c.args.acked.now c.least_beside.result _ c.requires c.least_beside.ensures

pub returns-clause-from : goal.returns-clause-from
returns-clause-from c = λ local. least_beside_own local c.args.acked.now c.least_beside.result _ c.requires c.least_beside.ensures
