use Rattle.std.proofs.Common.{rules, ◌∙◌, ◌%◌, ◌^◌, FitsSigned, ◌*ℤ◌, pos, w64}
use Rattle.std.proofs.lemmas.Int.{to_z-of_z}
use Rattle.abstract_num.specs.proved.SignedRows.{ends_fit}
use Rattle.abstract_num.specs.proved.Scaled.{times_mono}
use Rattle.abstract_num.proofs.srange.rows.lsh.Goals as goal

pub invariant_of-result : goal.invariant_of-result
invariant_of-result c =
    let t = 2 ^ (c.args.by % 64) in
    let a1 : FitsSigned w64 c.args.left.low = search rules in
    let a2 : FitsSigned w64 c.args.left.high = search rules in
    let a3 : FitsSigned w64 c.in-Some.low = search rules in
    let a4 : FitsSigned w64 c.in-Some-scaled.high = search rules in
    let l = simp to_z-of_z at c.in-Some.ensures in
    let h = simp to_z-of_z at c.in-Some-scaled.ensures in
    let low = to_z-of_z w64 c.in-Some.low a3 ∙ l.1 in
    let high = to_z-of_z w64 c.in-Some-scaled.high a4 ∙ h.1 in
    record { ordered = rw (low, high) (times_mono t c.args.left.low c.args.left.high c.args.left.ordered) }

pub returns : goal.returns
returns c =
    let t = 2 ^ (c.args.by % 64) in
    let a1 : FitsSigned w64 c.args.left.low = search rules in
    let a2 : FitsSigned w64 c.args.left.high = search rules in
    let a3 : FitsSigned w64 c.in-Some.low = search rules in
    let a4 : FitsSigned w64 c.in-Some-scaled.high = search rules in
    let l = simp to_z-of_z at c.in-Some.ensures in
    let h = simp to_z-of_z at c.in-Some-scaled.ensures in
    rw (ends_fit (c.args.left.low *ℤ pos t) (c.args.left.high *ℤ pos t) l.0 h.0)
    (to_z-of_z w64 c.in-Some.low a3 ∙ l.1, to_z-of_z w64 c.in-Some-scaled.high a4 ∙ h.1)
