use Rattle.std.proofs.Common.{rules}
use Rattle.pg_log.proofs.group.Group.append.Goals as goal

-- turned by repeated_request_runs_again
pub append_new-requires-clause-none : goal.append_new-requires-clause-none
append_new-requires-clause-none g c = search rules
