use Rattle.std.proofs.Common.{rules}
use Rattle.sim.proofs.play.play.Goals as goal

-- turned by drawn_where_lines_are_asked
pub returns-then-is_drawn : goal.returns-then-is_drawn
returns-then-is_drawn g c = search rules

-- turned by drawn_where_lines_are_asked
pub returns-else-is_drawn : goal.returns-else-is_drawn
returns-else-is_drawn g c = search rules
