use denote.Param.{param}
use Rattle.pg_log.proofs.Crosses.{group_sends}
use Rattle.pg_log.proofs.crossing.group_crosses.Goals as goal

pub returns : goal.returns
returns g c = group_sends (param 0 g.row.C) g.C.Classes c.entry_crosses.ensures c.objects_cross.ensures
