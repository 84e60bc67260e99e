use Rattle.op_shards.proofs.Keeps.{opens}
use Rattle.op_shards.proofs.queue_end.FreeEnd.open.Goals as goal

pub another-requires-clause-rule : goal.another-requires-clause-rule
another-requires-clause-rule g c = rw c.requires.first (opens g.T.GroupOp.group _ g.J.Placed.place c.requires.some)
