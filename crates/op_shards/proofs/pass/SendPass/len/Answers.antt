use Rattle.std.proofs.Common.{ap}
use Rattle.op_shards.proofs.EndSteps.{in_range, sender_held}
use Rattle.op_shards.proofs.pass.SendPass.len.Goals as goal

pub returns-clause-held : goal.returns-clause-held
returns-clause-held g c =
    let queue_end = c.index_mut-queue_end in
    let ends = c.self.inside.ends.items in
    let lt = in_range (λ l. l.spot.queue) ends _ c.args.shard _ (ap (λ s. s.queues.names) c.self.view_is) c.requires in
    sender_held g.T.GroupOp.group c.self.inside.senders c.self.inside.takers c.self.inside.sender ends c.args.shard queue_end.result.now c.len.result lt queue_end.ensures.value c.self.invariant.0 c.self.invariant.1 c.len.ensures.held c.args.self.now c.self.view_is
