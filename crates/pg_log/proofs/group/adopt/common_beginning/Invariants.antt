use Rattle.std.proofs.Common.{◌≡◌, take}
use Rattle.pg_log.specs.Entries.{requests_of}
use Rattle.pg_log.proofs.group.adopt.common_beginning.Given as goal

abbrev pub invariant-loop-k : goal.invariant-loop-k
invariant-loop-k l = take l.k (requests_of l.entries) ≡ take l.k l.list
