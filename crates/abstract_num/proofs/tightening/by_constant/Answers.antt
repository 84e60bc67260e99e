use Rattle.std.proofs.Common.{rules, FitsSigned, w64, ◌∙◌, refl, true, false, eq-eqb}
use Rattle.std.proofs.lemmas.Int.{to_z-of_z}
use Rattle.abstract_num.specs.Plain.{view}
use Rattle.abstract_num.proofs.Tight.{agrees_if, one_number, denied, denied_by_bits}
use Rattle.abstract_num.proofs.tightening.by_constant.Goals as goal
use Rattle.abstract_num.proofs.tightening.by_constant.Goals.{else-n-bits-via-then-n-bits+then-sign-s+else-s-sign, else-n-bits-via-then-n-bits+else-sign-s, else-n-bits-via-else-n-bits}

pub returns-then-s-sign : goal.returns-then-s-sign
returns-then-s-sign c =
    let a : FitsSigned w64 c.cast_signed-s.result = search rules in
    let p : FitsSigned w64 c.args.x.second.first.low = search rules in
    let q : FitsSigned w64 c.args.x.second.first.high = search rules in
    let sign = to_z-of_z w64 c.cast_signed-s.result a ∙ c.cast_signed-s.ensures in
    one_number (view c.args.x) _ _ _ c.if-n-range.false sign (to_z-of_z w64 c.args.x.second.first.low p) (to_z-of_z w64 c.args.x.second.first.high q) c.if-n-bits.true c.if-sign-s.true c.if-s-sign.true

pub returns-else-n-bits : goal.returns-else-n-bits
returns-else-n-bits c =
    let x = view c.args.x in
    let a : FitsSigned w64 c.cast_signed-s.result = search rules in
    let p : FitsSigned w64 c.args.x.second.first.low = search rules in
    let q : FitsSigned w64 c.args.x.second.first.high = search rules in
    let sign = to_z-of_z w64 c.cast_signed-s.result a ∙ c.cast_signed-s.ensures in
    let least = to_z-of_z w64 c.args.x.second.first.low p in
    let greatest = to_z-of_z w64 c.args.x.second.first.high q in
    elim c.else-n-bits.branch [
      | else-n-bits-via-then-n-bits+then-sign-s+else-s-sign w ↦ denied x c.if-n-range.false (agrees_if x _ _ _ true true false sign least greatest (eq-eqb _ _ w.if-n-bits.true) w.if-sign-s.true w.if-s-sign.false)
      | else-n-bits-via-then-n-bits+else-sign-s w ↦ denied x c.if-n-range.false (agrees_if x _ _ _ true false _ sign least greatest (eq-eqb _ _ w.if-n-bits.true) w.if-sign-s.false refl)
      | else-n-bits-via-else-n-bits w ↦ denied_by_bits x c.if-n-range.false w.if-n-bits.false
    ]
