use Rattle.pg_log.proofs.Adopted.{as_replayed}
use Rattle.pg_log.proofs.laws.adopting.Goals as goal

pub returns : goal.returns
returns c = as_replayed
