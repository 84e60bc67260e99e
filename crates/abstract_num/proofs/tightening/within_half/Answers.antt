use Rattle.std.proofs.Common.{rules, ◌∙◌, FitsSigned, ℤ, w32, w64}
use Rattle.std.specs.Int.{int_max, int_min}
use mathlib.Core.Path.{ap₂}
use Rattle.std.proofs.lemmas.Int.{to_z-of_z}
use Rattle.abstract_num.proofs.tightening.within_half.Goals as goal

pub returns-else-high-low : goal.returns-else-high-low
returns-else-high-low c =
    let a : FitsSigned w64 c.max-low.result = search rules in
    let b : FitsSigned w64 c.min-high.result = search rules in
    let p : FitsSigned w64 c.args.sign.low = search rules in
    let q : FitsSigned w64 c.args.sign.high = search rules in
    let r : FitsSigned w32 c.args.half.low = search rules in
    let s : FitsSigned w32 c.args.half.high = search rules in
    let t : FitsSigned w64 c.from.result = search rules in
    let u : FitsSigned w64 c.from-2.result = search rules in (
      to_z-of_z w64 c.max-low.result a ∙ c.max-low.ensures.value ∙ ap₂ (λ (y z : ℤ). int_max y z) (to_z-of_z w64 c.args.sign.low p) (to_z-of_z w64 c.from.result t ∙ c.from.ensures ∙ to_z-of_z w32 c.args.half.low r),
      to_z-of_z w64 c.min-high.result b ∙ c.min-high.ensures.value ∙ ap₂ (λ (y z : ℤ). int_min y z) (to_z-of_z w64 c.args.sign.high q) (to_z-of_z w64 c.from-2.result u ∙ c.from-2.ensures ∙ to_z-of_z w32 c.args.half.high s),
    )
