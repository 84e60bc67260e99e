use Rattle.pg_log.proofs.Within.{folds_within}
use Rattle.pg_log.proofs.object_limits.objects_within_limits.Goals as goal

pub returns : goal.returns
returns c = folds_within c.limits_are_kept.ensures.calls
