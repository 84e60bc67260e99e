use Rattle.std.proofs.Common.{◌≡◌, take}
use Rattle.pg_log.specs.Entries.{requests_of}
use Rattle.pg_log.proofs.request_list.copy_log.Given as goal

abbrev pub invariant-loop-entry : goal.invariant-loop-entry
invariant-loop-entry l = l.copies.items ≡ requests_of (take l.entry-index l.entries)
