use Rattle.std.proofs.Common.{rules}
use Rattle.txn.proofs.staged.Staged.finish.Goals as goal

-- turned by finish_forgets_what_was
pub returns-clause-before : goal.returns-clause-before
returns-clause-before c = search rules
