use Rattle.std.proofs.Common.{◌≡◌, ◌-◌, map}
use Rattle.std.specs.List.{range_with_len}
use Rattle.op_shards.specs.Passes.{names, queues_of, spots, free_end_state, new_taker}
use Rattle.op_shards.proofs.pass.new_take_passes.Given as goal

abbrev pub invariant-loop-taker : goal.invariant-loop-taker
invariant-loop-taker g l = record {
  free_ends : l.free_ends.items ≡ map (free_end_state l.members.senders (l.members.takers - l.taker)) (spots (queues_of (names l.queues.items) l.members.senders l.members.takers));
  passes : l.passes.items ≡ map (λ _. new_taker (queues_of (names l.queues.items) l.members.senders l.members.takers)) (range_with_len 0 l.taker);
}
