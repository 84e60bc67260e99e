use Rattle.std.proofs.Common.{◌≡◌, ◌≤◌, take, vec_capacity}
use mathlib.Core.List.{IsPrefix}
use Rattle.pg_log.specs.Adopting.{rest_refusal}
use Rattle.pg_log.specs.Places.{RoomStays}
use Rattle.pg_log.specs.Entries.{KeepsLog, requests_of}
use Rattle.pg_log.proofs.group.Group.extend.Given as goal

abbrev pub invariant-loop-k : goal.invariant-loop-k
invariant-loop-k g l = record {
  kept : KeepsLog g.C.Classes.classes l.log;
  done : requests_of l.log.entries.items ≡ take l.k l.list;
  left : rest_refusal l.table l.list l.at ≡ rest_refusal l.table l.list l.k;
  begun : IsPrefix l.fn.log.entries.items l.log.entries.items;
  entries_room : vec_capacity l.fn.log.entries ≤ vec_capacity l.log.entries;
  room : RoomStays l.fn.log.places l.log.places;
}
