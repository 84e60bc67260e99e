use Rattle.std.proofs.Common.{◌∙◌, [], append-nil}
use Rattle.pg_log.proofs.group_work.start.Goals as goal

pub work-requires-clause-fits : goal.work-requires-clause-fits
work-requires-clause-fits g c = ([], append-nil c.args.table.now ∙ c.requires)
