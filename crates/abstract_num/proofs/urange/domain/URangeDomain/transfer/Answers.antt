use Rattle.std.proofs.Common.{rules}
use Rattle.abstract_num.proofs.urange.domain.URangeDomain.transfer.Goals as goal

-- turned by arithmetic_shift_as_a_logical_one
pub returns-in-ArshBy : goal.returns-in-ArshBy
returns-in-ArshBy c = search rules
