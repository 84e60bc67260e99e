use Rattle.std.proofs.Common.{rules}
use Rattle.peering.proofs.monitor.Monitor.map_after.Goals as goal

-- turned by compared_with_the_activated_map
pub returns-then-are_same : goal.returns-then-are_same
returns-then-are_same c = search rules

-- turned by compared_with_the_activated_map
pub returns : goal.returns
returns c = search rules
