use Rattle.std.proofs.Common.{rules, ℤ, ◌*ℤ◌, FitsSigned, w64, subst}
use Rattle.std.specs.Option.{SomeIff}
use Rattle.std.proofs.lemmas.Int.{to_z-of_z}
use Rattle.abstract_num.proofs.srange.rows.doubled.Goals as goal

pub returns : goal.returns
returns c =
    let a : FitsSigned w64 c.args.n = search rules in
    let b : FitsSigned w64 c.power.result = search rules in
    let h = simp to_z-of_z at c.checked_mul.ensures in
    subst (λ (z : ℤ). SomeIff c.checked_mul.result (FitsSigned w64 (c.args.n *ℤ z)) (c.args.n *ℤ z)) c.power.ensures h
