use Rattle.std.proofs.Common.{rules}
use Rattle.verifier.proofs.pass.Pass.visit.Goals as goal

-- turned by accepts_all
pub returns-in_ok-leave-clause-rule : goal.returns-in_ok-leave-clause-rule
returns-in_ok-leave-clause-rule c = search rules
