use Rattle.std.proofs.Common.{◌≡◌, map}
use Rattle.std.specs.List.{range_with_len}
use Rattle.op_shards.specs.Passes.{names, queues_of, spots, free_end_state, new_sender}
use Rattle.op_shards.proofs.pass.new_send_passes.Given as goal

abbrev pub invariant-loop-sender : goal.invariant-loop-sender
invariant-loop-sender g l = record {
  free_ends : l.free_ends.items ≡ map (free_end_state l.sender l.members.takers) (spots (queues_of (names l.queues.items) l.members.senders l.members.takers));
  passes : l.passes.items ≡ map (new_sender (queues_of (names l.queues.items) l.members.senders l.members.takers)) (range_with_len 0 l.sender);
}
