use Rattle.std.proofs.Common.{◌≡◌, take}
use Rattle.pg_log.proofs.request_list.copy_requests.Given as goal

abbrev pub invariant-loop-request : goal.invariant-loop-request
invariant-loop-request l = l.copies.items ≡ take l.request-index l.list
