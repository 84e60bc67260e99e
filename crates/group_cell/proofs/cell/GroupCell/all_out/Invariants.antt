use Rattle.std.proofs.Common.{◌≡◌, ◌≤◌, ◌++◌, length, vec_len, vec_capacity}
use Rattle.std.specs.Vec.Iter.{into_iter_items, into_iter_len}
use Rattle.group_cell.specs.Turns.{GoOutAs}
use Rattle.group_cell.proofs.cell.GroupCell.all_out.Given as goal

abbrev pub invariant-loop-packet : goal.invariant-loop-packet
invariant-loop-packet g l = record {
  left : l.yielded ++ into_iter_items l.packet-iterator ≡ l.fn.sent;
  counted : into_iter_len l.packet-iterator ≡ length (into_iter_items l.packet-iterator);
  same : l.self ≡ l.initial.self;
  out : GoOutAs l.initial.self l.reported l.yielded l.out.items;
  len : vec_len l.out ≡ length l.yielded;
  room : length l.fn.sent ≤ vec_capacity l.out;
}
