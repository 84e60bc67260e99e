use Rattle.std.proofs.Common.{◌≡◌, ◌≤◌, replicate, vec_len, vec_capacity}
use Rattle.group_world.specs.Monitor.{no_maps}
use Rattle.map_book.proofs.book.MapBook.new.Given as goal

abbrev pub invariant-loop : goal.invariant-loop
invariant-loop l = record {
  made : l.monitors.items ≡ replicate l.counter no_maps;
  len : vec_len l.monitors ≡ l.counter;
  room : l.groups ≤ vec_capacity l.monitors;
}
