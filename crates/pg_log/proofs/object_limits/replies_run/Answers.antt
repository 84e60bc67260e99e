use Rattle.pg_log.proofs.Running.{replies_run}
use Rattle.pg_log.proofs.object_limits.replies_run.Goals as goal

pub returns : goal.returns
returns c = replies_run c.limits_are_kept.ensures.calls c.outcomes.ensures
