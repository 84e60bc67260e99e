use Rattle.pg_log.proofs.Tables.{same_with_more}
use Rattle.pg_log.proofs.laws.classes_added.Goals as goal

pub returns : goal.returns
returns c = same_with_more
