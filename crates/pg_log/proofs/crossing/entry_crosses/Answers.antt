use Rattle.pg_log.proofs.Crosses.{entry_sends}
use Rattle.pg_log.proofs.crossing.entry_crosses.Goals as goal

pub returns : goal.returns
returns c = entry_sends c.request_crosses.ensures.sent c.change_crosses.ensures
