use Rattle.std.proofs.Common.{◌≡◌, ap, ◌∙◌, map, length, length-append, arith, [], ◌∷◌}
use Rattle.crossbeam_queue.specs.Passes.{ruled_capacity}
use Rattle.op_shards.specs.Passes.{free_end_state}
use Rattle.op_shards.proofs.NewEnds.{more_free_ends, all_spots, all_more_of}
use Rattle.op_shards.proofs.shards.open_all.Goals as goal

pub loop-shard-preserved : goal.loop-shard-preserved
loop-shard-preserved g c =
    let i = c.loop-shard.invariant in
    let more = c.in_ok-push-2.ensures.items in
    let queues = c.loop-shard.queues.items in
    let longer = ap length more in
    record {
      count = omega (arith, i.count, longer, length-append queues (c.in_ok-queue.queue ∷ []));
      places = all_more_of (λ q. ruled_capacity q ≡ c.args.places) queues _ _ more i.places c.in_ok-queue.ensures.queue;
      free_ends = more_free_ends c.args.shards c.args.members.senders c.args.members.takers c.loop-shard.shard queues _ c.in_ok-queue.queue c.loop-shard.free_ends.items _ _ i.count i.free_ends c.in_ok-queue.ensures.free_end more c.in_ok-push.ensures.items;
    }

pub returns-clause-free_ends : goal.returns-clause-free_ends
returns-clause-free_ends g c =
    let i = c.loop-shard.invariant in
    let long : length c.loop-shard.queues.items ≡ c.args.shards = omega (arith, i.count, c.loop-shard-test.false, c.loop-shard.auto.shard-end) in
    i.free_ends ∙ ap (map (free_end_state 0 c.args.members.takers)) (all_spots c.args.shards c.args.members.senders c.args.members.takers c.loop-shard.queues.items long)
