use Rattle.std.proofs.Common.{arith}
use Rattle.abstract_num.specs.proved.BitsRows.{and_not}
use Rattle.abstract_num.proofs.bits.rows.without.Goals as goal

pub returns : goal.returns
returns c = and_not c.args.n c.args.mask (omega arith) (omega arith)
