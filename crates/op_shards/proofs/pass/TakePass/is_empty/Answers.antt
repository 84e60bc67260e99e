use Rattle.std.proofs.Common.{ap}
use Rattle.op_shards.proofs.EndSteps.{in_range, taker_held}
use Rattle.op_shards.proofs.pass.TakePass.is_empty.Goals as goal

pub returns-clause-held : goal.returns-clause-held
returns-clause-held g c empty =
    let queue_end = c.index_mut-queue_end in
    let ends = c.self.inside.ends.items in
    let lt = in_range (λ l. l.spot.queue) ends _ c.args.shard _ (ap (λ s. s.queues.names) c.self.view_is) c.requires in
    taker_held g.T.GroupOp.group c.self.inside.senders c.self.inside.takers ends c.args.shard queue_end.result.now 0 lt queue_end.ensures.value c.self.invariant.0 c.self.invariant.2 (c.is_empty.ensures.held empty) c.args.self.now c.self.view_is
