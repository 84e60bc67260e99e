use Rattle.std.proofs.Common.{rules, FitsSigned, w64}
use Rattle.std.proofs.lemmas.Int.{to_z-of_z}
use Rattle.abstract_num.proofs.Loads.{signed_range_holds}
use Rattle.abstract_num.proofs.number.signed_between.Goals as goal

pub returns-clause-holds : goal.returns-clause-holds
returns-clause-holds c =
    let low : FitsSigned w64 c.args.low = search rules in
    let high : FitsSigned w64 c.args.high = search rules in
    let table = simp to_z-of_z at c.signed_tightened.ensures in
    signed_range_holds c.args.precision c.args.low c.args.high c.signed_tightened.result table
