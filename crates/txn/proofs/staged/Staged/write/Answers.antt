use Rattle.std.proofs.Common.{rules}
use Rattle.txn.proofs.staged.Staged.write.Goals as goal

-- turned by a_write_loses_those_before_it
pub returns-clause-answer : goal.returns-clause-answer
returns-clause-answer c = search rules
