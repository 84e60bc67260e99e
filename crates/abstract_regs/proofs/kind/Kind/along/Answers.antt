use Rattle.std.proofs.Common.{rules}
use Rattle.abstract_regs.proofs.kind.Kind.along.Goals as goal

-- turned by dead_edge_kept
pub returns-else-same : goal.returns-else-same
returns-else-same c = search rules
