use Rattle.pg_log.proofs.Kept.{undone_last}
use Rattle.pg_log.proofs.laws.undoing.Goals as goal

pub returns : goal.returns
returns c = undone_last
