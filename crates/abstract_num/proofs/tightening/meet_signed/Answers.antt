use Rattle.std.proofs.Common.{rules, FitsSigned, w64, ◌∙◌}
use Rattle.std.proofs.lemmas.Int.{to_z-of_z}
use Rattle.abstract_num.specs.Plain.{view}
use Rattle.abstract_num.proofs.Tight.{met_signed}
use Rattle.abstract_num.proofs.tightening.meet_signed.Goals as goal

pub returns : goal.returns
returns c =
    let a : FitsSigned w64 c.max-low.result = search rules in
    let b : FitsSigned w64 c.min-high.result = search rules in
    let p : FitsSigned w64 c.args.x.second.first.low = search rules in
    let q : FitsSigned w64 c.args.x.second.first.high = search rules in
    let r : FitsSigned w64 c.args.low = search rules in
    let s : FitsSigned w64 c.args.high = search rules in
    met_signed (view c.args.x) c.args.low c.args.high _ _ _ _ _ _
    (to_z-of_z w64 c.max-low.result a ∙ c.max-low.ensures.value) (to_z-of_z w64 c.args.x.second.first.low p) (to_z-of_z w64 c.args.low r)
    (to_z-of_z w64 c.min-high.result b ∙ c.min-high.ensures.value) (to_z-of_z w64 c.args.x.second.first.high q) (to_z-of_z w64 c.args.high s)
