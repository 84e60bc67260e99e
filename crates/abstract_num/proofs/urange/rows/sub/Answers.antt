use Rattle.std.proofs.Common.{rules}
use Rattle.abstract_num.proofs.urange.rows.sub.Goals as goal

-- turned by difference_of_equal_ends
pub span-requires : goal.span-requires
span-requires c = search rules

-- turned by difference_of_equal_ends
pub returns-then-left-right : goal.returns-then-left-right
returns-then-left-right c = search rules
