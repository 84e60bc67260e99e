use Rattle.std.proofs.Common.{rules}
use Rattle.peering.proofs.monitor.Monitor.activate.Goals as goal

-- turned by older_interval_activated
pub returns-clause-answer : goal.returns-clause-answer
returns-clause-answer c = search rules
