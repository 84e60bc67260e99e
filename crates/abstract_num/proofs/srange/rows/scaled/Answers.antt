use Rattle.std.proofs.Common.{rules, ◌-◌, ◌/◌, FitsSigned, w64, arith}
use Rattle.std.proofs.lemmas.Int.{to_z-of_z}
use Rattle.abstract_num.specs.proved.Scaled.{scaled_on, scaled_not}
use Rattle.abstract_num.proofs.srange.rows.scaled.Goals as goal

pub returns-in-Some : goal.returns-in-Some
returns-in-Some c =
    let a : FitsSigned w64 c.args.n = search rules in
    let b : FitsSigned w64 c.in-Some.part = search rules in
    let h = simp to_z-of_z at c.in-Some.ensures in
    let k = simp to_z-of_z at c.doubled-in-Some.ensures in
    scaled_on c.args.n (c.args.by / 2) (c.args.by - c.args.by / 2) c.args.by c.in-Some.part c.doubled-in-Some.result (omega arith) h.1 k

pub returns-in-None : goal.returns-in-None
returns-in-None c =
    let a : FitsSigned w64 c.args.n = search rules in
    let h = simp to_z-of_z at c.in-None.ensures in
    scaled_not c.args.n (c.args.by / 2) (c.args.by - c.args.by / 2) c.args.by (omega arith) h
