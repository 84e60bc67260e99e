use Rattle.std.proofs.Common.{◌≡◌, rules, FitsSigned, w64, subst, sym, ◌∙◌, ◌<ℤ◌}
use Rattle.std.proofs.lemmas.Int.{to_z-of_z}
use Rattle.std.proofs.lemmas.Bool.{leb-true}
use Rattle.std.specs.Prelude.{MatchOption}
use Rattle.abstract_num.specs.Plain.{Plain, view}
use Rattle.abstract_num.proofs.Tight.{meets_low, meets_high}
use Rattle.abstract_num.proofs.tightening.by_unsigned.Goals as goal
use Rattle.abstract_num.proofs.tightening.by_unsigned.Goals.{then-range, else-range}

pub returns-then-range-2 : goal.returns-then-range-2
returns-then-range-2 c =
    let a : FitsSigned w64 c.cast_signed.result = search rules in
    let b : FitsSigned w64 c.cast_signed-then-range-2.result = search rules in
    let low = to_z-of_z w64 c.cast_signed.result a ∙ c.cast_signed.ensures in
    let high = to_z-of_z w64 c.cast_signed-then-range-2.result b ∙ c.cast_signed-then-range-2.ensures in
    elim c.if-range.branch [
      | then-range w ↦ subst (λ (y : Plain). MatchOption c.meet_signed.result (y.greatest <ℤ y.least) (λ z. view z ≡ y)) (sym (meets_low (view c.args.x) _ _ c.args.x.first.ordered w.if-range.true low high)) c.meet_signed.ensures
      | else-range w ↦ subst (λ (y : Plain). MatchOption c.meet_signed.result (y.greatest <ℤ y.least) (λ z. view z ≡ y)) (sym (meets_high (view c.args.x) _ _ c.args.x.first.ordered c.args.x.first.fits (leb-true _ _ (sym w.value-is ∙ c.if-range-2.true)) low high)) c.meet_signed.ensures
    ]
