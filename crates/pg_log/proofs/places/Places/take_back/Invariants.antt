use Rattle.std.proofs.Common.{List, ◌++◌, length, take, ◌-◌}
use Rattle.pg_log.specs.Requests.{ClientRequest}
use Rattle.pg_log.specs.Places.{ArePlaces, RoomStays}
use Rattle.pg_log.specs.Entries.{requests_of}
use Rattle.pg_log.proofs.places.Places.take_back.Given as goal

abbrev pub invariant-loop-back : goal.invariant-loop-back
invariant-loop-back l = record {
  places : (list : List ClientRequest) → ArePlaces l.fn.self (list ++ requests_of l.entries) → ArePlaces l.self (list ++ requests_of (take (length l.entries - l.back) l.entries));
  room : RoomStays l.fn.self l.self;
}
