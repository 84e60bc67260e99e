use Rattle.std.proofs.Common.{◌≡◌, take}
use Rattle.pg_log.specs.Entries.{requests_of}
use Rattle.pg_log.proofs.group.Group.keep_copies.Given as goal

abbrev pub invariant-loop-entry : goal.invariant-loop-entry
invariant-loop-entry g l = l.self ≡ take l.entry-index (requests_of l.entries)
