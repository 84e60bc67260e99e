use Rattle.std.proofs.Common.{◌≡◌, length, take}
use Rattle.pg_log.proofs.request_list.are_same_requests.Given as goal

abbrev pub invariant-loop-place : goal.invariant-loop-place
invariant-loop-place l = record { as_long : length l.list ≡ length l.other; so_far : take l.place l.list ≡ take l.place l.other }
