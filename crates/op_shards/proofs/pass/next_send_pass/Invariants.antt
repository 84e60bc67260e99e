use Rattle.std.proofs.Common.{◌≡◌, ◌+◌, ◌++◌, map, take, drop}
use Rattle.op_shards.specs.Passes.{names, queues_of, spots, free_end_state, new_send}
use Rattle.op_shards.proofs.pass.next_send_pass.Given as goal

abbrev pub invariant-loop-i : goal.invariant-loop-i
invariant-loop-i g l = record {
  free_ends : l.free_ends.items ≡ map (free_end_state (l.sender + 1) l.members.takers) (take l.i (spots (queues_of (names l.queues.items) l.members.senders l.members.takers))) ++ map (free_end_state l.sender l.members.takers) (drop l.i (spots (queues_of (names l.queues.items) l.members.senders l.members.takers)));
  ends : l.ends.items ≡ map (new_send l.sender) (take l.i (spots (queues_of (names l.queues.items) l.members.senders l.members.takers)));
}
