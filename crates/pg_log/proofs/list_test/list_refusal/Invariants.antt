use Rattle.std.proofs.Common.{◌≡◌, None, take, drop}
use Rattle.pg_log.specs.Refusals.{first_refusal, first_refusal_from}
use Rattle.pg_log.specs.Places.{ArePlaces}
use Rattle.pg_log.proofs.list_test.list_refusal.Given as goal

abbrev pub invariant-loop-place : goal.invariant-loop-place
invariant-loop-place l = record {
  indexed : ArePlaces l.places (take l.place l.list);
  run : first_refusal l.table (take l.place l.list) ≡ None;
  left : first_refusal l.table l.list ≡ first_refusal_from l.table (take l.place l.list) (drop l.place l.list);
}
