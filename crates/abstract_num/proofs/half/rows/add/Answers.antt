use Rattle.std.proofs.Common.{rules, ◌∙◌, FitsSigned, ◌+ℤ◌, w32}
use Rattle.std.proofs.lemmas.Int.{to_z-of_z}
use Rattle.abstract_num.specs.proved.HalfRows.{ends_fit, low_end_too_far, high_end_too_far}
use Rattle.abstract_num.proofs.SignedEnds.{sum_ordered}
use Rattle.abstract_num.proofs.half.rows.add.Goals as goal

pub returns-in_default-sum : goal.returns-in_default-sum
returns-in_default-sum c =
    let a1 : FitsSigned w32 c.args.left.low = search rules in
    let a2 : FitsSigned w32 c.args.left.high = search rules in
    let a3 : FitsSigned w32 c.args.right.low = search rules in
    let a4 : FitsSigned w32 c.args.right.high = search rules in
    let h = simp to_z-of_z at c.in_default-sum.ensures in
    let l = simp to_z-of_z at c.in-Some.ensures in
    rw (high_end_too_far (c.args.left.low +ℤ c.args.right.low) (c.args.left.high +ℤ c.args.right.high) l.0 h) c.every-in_default-sum.ensures

pub returns : goal.returns
returns c =
    let a1 : FitsSigned w32 c.args.left.low = search rules in
    let a2 : FitsSigned w32 c.args.left.high = search rules in
    let a3 : FitsSigned w32 c.args.right.low = search rules in
    let a4 : FitsSigned w32 c.args.right.high = search rules in
    let a5 : FitsSigned w32 c.in-Some.low = search rules in
    let a6 : FitsSigned w32 c.in-Some-sum.high = search rules in
    let h = simp to_z-of_z at c.in-Some-sum.ensures in
    let l = simp to_z-of_z at c.in-Some.ensures in
    rw (ends_fit (c.args.left.low +ℤ c.args.right.low) (c.args.left.high +ℤ c.args.right.high) l.0 h.0)
    (to_z-of_z w32 c.in-Some.low a5 ∙ l.1, to_z-of_z w32 c.in-Some-sum.high a6 ∙ h.1)

pub invariant_of-result : goal.invariant_of-result
invariant_of-result c =
    let a1 : FitsSigned w32 c.args.left.low = search rules in
    let a2 : FitsSigned w32 c.args.left.high = search rules in
    let a3 : FitsSigned w32 c.args.right.low = search rules in
    let a4 : FitsSigned w32 c.args.right.high = search rules in
    let a5 : FitsSigned w32 c.in-Some.low = search rules in
    let a6 : FitsSigned w32 c.in-Some-sum.high = search rules in
    let h = simp to_z-of_z at c.in-Some-sum.ensures in
    let l = simp to_z-of_z at c.in-Some.ensures in
    let low = to_z-of_z w32 c.in-Some.low a5 ∙ l.1 in
    let high = to_z-of_z w32 c.in-Some-sum.high a6 ∙ h.1 in
    record { ordered = rw (low, high) (sum_ordered c.args.left.low c.args.left.high c.args.right.low c.args.right.high c.args.left.ordered c.args.right.ordered) }

pub returns-in_default : goal.returns-in_default
returns-in_default c =
    let a1 : FitsSigned w32 c.args.left.low = search rules in
    let a2 : FitsSigned w32 c.args.left.high = search rules in
    let a3 : FitsSigned w32 c.args.right.low = search rules in
    let a4 : FitsSigned w32 c.args.right.high = search rules in
    let h = simp to_z-of_z at c.in_default.ensures in
    rw (low_end_too_far (c.args.left.low +ℤ c.args.right.low) (c.args.left.high +ℤ c.args.right.high) h) c.every.ensures
