use Rattle.std.proofs.Common.{◌≡◌, length, map}
use Rattle.std.specs.Prelude.{All}
use Rattle.crossbeam_queue.specs.Passes.{ruled_capacity}
use Rattle.op_shards.specs.Order.{queue_position}
use Rattle.op_shards.specs.Passes.{names, spots_from, free_end_state}
use Rattle.op_shards.proofs.shards.open_all.Given as goal

abbrev pub invariant-loop-shard : goal.invariant-loop-shard
invariant-loop-shard g l = record {
  count : length l.queues.items ≡ l.shard;
  places : All (λ q. ruled_capacity q ≡ l.places) l.queues.items;
  free_ends : l.free_ends.items ≡ map (free_end_state 0 l.members.takers) (spots_from 0 l.shards l.members.senders l.members.takers (names l.queues.items));
}

abbrev pub ghosts-open : goal.ghosts-open
ghosts-open g a = record { place = queue_position a.shard a.shards a.members.senders a.members.takers }
