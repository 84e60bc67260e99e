use Rattle.std.proofs.Common.{◌≡◌, None, take, drop}
use Rattle.pg_log.specs.Refusals.{first_refusal, first_refusal_from}
use Rattle.pg_log.proofs.group.Group.run_all.Given as goal

abbrev pub invariant-loop-request : goal.invariant-loop-request
invariant-loop-request g l = record {
  done : l.self ≡ take l.request-index l.list;
  run : first_refusal l.table (take l.request-index l.list) ≡ None;
  left : first_refusal l.table l.list ≡ first_refusal_from l.table (take l.request-index l.list) (drop l.request-index l.list);
}
