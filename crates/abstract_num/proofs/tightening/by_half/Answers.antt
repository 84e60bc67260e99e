use Rattle.std.proofs.Common.{rules, ◌≡◌, ◌∙◌, ◌<◌, ◌^◌, ap, sym, subst, FitsSigned, ℤ, pos, w32, arith}
use Rattle.std.specs.Prelude.{◌≤ℤ◌}
use Rattle.std.specs.Int.{cast_unsigned}
use Rattle.std.proofs.lemmas.Int.{ints, to_z-of_z}
use Rattle.abstract_num.specs.Plain.{view}
use Rattle.abstract_num.specs.Tighten.{natural}
use Rattle.abstract_num.specs.declared.urange.URange.{URange}
use Rattle.abstract_num.specs.declared.half.Half.{Half}
use Rattle.abstract_num.proofs.HalfSteps.{unsigned_of, half_meets}
use Rattle.abstract_num.proofs.tightening.by_half.Goals as goal

pub returns-then-half-ge0 : goal.returns-then-half-ge0
returns-then-half-ge0 c =
    let x = view c.args.x in
    let low : FitsSigned w32 c.half-half.result.low = search rules in
    let high : FitsSigned w32 c.half-half.result.high = search rules in
    let p : pos 0 ≤ℤ c.half-half.result.low = search rules in
    let q : pos 0 ≤ℤ c.half-half.result.high = omega (arith, ints, c.half-half.result.ordered) in
    let e = c.half-half.ensures in
    let l : c.args.x.first.high < 2 ^ 32 = subst (λ (u : URange). u.high < 2 ^ 32) c.unsigned.ensures c.if-unsigned.true in
    let r : pos 0 ≤ℤ x.half_least = subst (λ (h : Half). pos 0 ≤ℤ h.low) e p in
    let a : c.from.result ≡ natural x.half_least = c.from.ensures ∙ c.cast_unsigned.ensures ∙ ap (λ (z : ℤ). cast_unsigned w32 z) (to_z-of_z w32 c.half-half.result.low low) ∙ unsigned_of c.half-half.result.low p ∙ ap (λ (h : Half). natural h.low) e in
    let b : c.from-then-half-ge0.result ≡ natural x.half_greatest = c.from-then-half-ge0.ensures ∙ c.cast_unsigned-then-half-ge0.ensures ∙ ap (λ (z : ℤ). cast_unsigned w32 z) (to_z-of_z w32 c.half-half.result.high high) ∙ unsigned_of c.half-half.result.high q ∙ ap (λ (h : Half). natural h.high) e in
    half_meets x c.meet_unsigned.result c.from.result c.from-then-half-ge0.result (sym c.is_short.ensures ∙ c.if-is_short.false) l r a b c.meet_unsigned.ensures
