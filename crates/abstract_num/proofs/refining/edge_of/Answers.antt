use Rattle.std.proofs.Common.{rules}
use Rattle.abstract_num.proofs.refining.edge_of.Goals as goal

-- turned by signed_comparison_refines_the_unsigned_range
pub returns-in-SignedGreater : goal.returns-in-SignedGreater
returns-in-SignedGreater c = search rules
