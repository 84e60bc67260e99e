use Rattle.std.proofs.Common.{arith}
use Rattle.abstract_num.proofs.Loads.{range_holds}
use Rattle.abstract_num.proofs.number.between.Goals as goal

pub returns-clause-holds : goal.returns-clause-holds
returns-clause-holds c = λ n l h. range_holds c.args.precision c.args.low c.args.high c.tightened.result c.tightened.ensures n (omega arith) l h
