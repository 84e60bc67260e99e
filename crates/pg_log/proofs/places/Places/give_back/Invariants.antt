use Rattle.std.proofs.Common.{take}
use Rattle.pg_log.specs.Places.{ArePlaces, HasRoom}
use Rattle.pg_log.specs.Entries.{requests_of}
use Rattle.pg_log.proofs.places.Places.give_back.Given as goal

abbrev pub invariant-loop-place : goal.invariant-loop-place
invariant-loop-place l = record {
  places : ArePlaces l.self (take l.place (requests_of l.entries));
  room : HasRoom l.self (requests_of l.entries);
}
