use Rattle.std.proofs.Common.{rules}
use Rattle.abstract_regs.proofs.link.Link.join.Goals as goal

-- turned by join_keeps_one_sides_link
pub returns-then-is_same : goal.returns-then-is_same
returns-then-is_same c = search rules
