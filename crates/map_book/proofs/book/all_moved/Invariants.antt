use Rattle.std.proofs.Common.{◌≡◌, ◌≤◌, ◌++◌, length, drop, vec_len, vec_capacity}
use Rattle.map_book.specs.Book.{moved_from, maps_from}
use Rattle.map_book.proofs.book.all_moved.Given as goal

abbrev pub invariant-loop-group : goal.invariant-loop-group
invariant-loop-group l = record {
  moved : l.next.items ++ moved_from l.group l.cluster.replicas l.cluster.up.items (drop l.group l.monitors) ≡ moved_from 0 l.cluster.replicas l.cluster.up.items l.monitors;
  made : l.maps.items ++ maps_from l.group l.cluster.replicas l.cluster.up.items (drop l.group l.monitors) ≡ maps_from 0 l.cluster.replicas l.cluster.up.items l.monitors;
  next_len : vec_len l.next ≡ l.group;
  maps_len : vec_len l.maps ≡ l.group;
  next_room : length l.monitors ≤ vec_capacity l.next;
  maps_room : length l.monitors ≤ vec_capacity l.maps;
}
