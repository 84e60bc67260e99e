use Rattle.std.proofs.Common.{◌≡◌, ◌+◌, ◌^◌, ◌<◌, Some, None, refl, ap, ◌∙◌, sym, subst, arith, length}
use Rattle.std.specs.Prelude.{slice_get}
use Rattle.std.proofs.lemmas.Option.{none-some, slice_get_read, slice_get_within}
use Rattle.bpf_machine.specs.State.{◌>>=◌}
use Rattle.verifier.proofs.Runs.{inner}
use Rattle.loop_tables.specs.Table.{loop_table}
use Rattle.loop_tables.proofs.Verdicts.{refused_at, refused_over}
use Rattle.loop_verdict.specs.inner.Pass.{FitsIf}
use Rattle.loop_verdict.proofs.Visits.{Follows, follows_first, follows_over, follows_more, its, its_rule, fit_more, fit_over}
use Rattle.loop_verdict.proofs.pass.HeadPass.run.Goals.{in-Some+in_ok-rule+in_default-2, in_default}
use Rattle.loop_verdict.proofs.pass.HeadPass.run.Goals as goal

pub loop-slot-init : goal.loop-slot-init
loop-slot-init c =
    let m = c.args.method.now in
    record {
      rest = refl;
      fit = λ k i lt at. absurd (omega arith);
      follows = follows_first m.caps.now m.heads.now m.code.now c.args.self.now c.requires.pending c.requires.heads c.args.self.now.heads.one_each c.requires.current c.requires.landing;
    }

pub returns-in-Some-2 : goal.returns-in-Some-2
returns-in-Some-2 c =
    let m = c.args.method.now in
    let caps = m.caps.now in
    let heads = m.heads.now in
    let code = m.code.now in
    let slot = c.loop-slot.slot in
    let pass = c.loop-slot.self in
    let table = loop_table caps heads code in
    let small : slot < 2 ^ 62 = omega arith in
    let lt : slot < length code = omega arith in
    let at : slice_get code slot ≡ Some (Some c.in-Some.insn) = slice_get_read code (length code) slot _ refl lt c.begun-item.is ∙ ap Some c.in-Some.is in
    let fetched = ap (λ o. o >>= λ i. i) at in
    let fit = c.requires.fit slot c.in-Some.insn fetched in
    let rule = its_rule caps heads code slot c.in-Some.insn pass _ c.in_ok-rule.field-0 small lt fetched fit c.loop-slot.invariant.follows c.in_ok-rule.ensures in
    record {
      verdict = sym (refused_at caps heads code table slot c.in-Some.insn (Some c.in-Some-2.rule) at (sym rule ∙ c.in-Some-2.is)) ∙ c.loop-slot.invariant.rest;
      fits = λ none. absurd (none-some _ (sym none));
    }

pub loop-slot-preserved : goal.loop-slot-preserved
loop-slot-preserved c = elim c.match-begun.branch [
  | in-Some+in_ok-rule+in_default-2 w ↦
      let m = c.args.method.now in
      let caps = m.caps.now in
      let heads = m.heads.now in
      let code = m.code.now in
      let slot = c.loop-slot.slot in
      let pass = c.loop-slot.self in
      let table = loop_table caps heads code in
      let small : slot < 2 ^ 62 = omega arith in
      let lt : slot < length code = omega arith in
      let at : slice_get code slot ≡ Some (Some w.in-Some.insn) = slice_get_read code (length code) slot _ refl lt c.begun-item.is ∙ ap Some w.in-Some.is in
      let fetched = ap (λ o. o >>= λ i. i) at in
      let fit = c.requires.fit slot w.in-Some.insn fetched in
      let v = w.in_ok-rule.ensures in
      let follows = c.loop-slot.invariant.follows in
      let rule = its_rule caps heads code slot w.in-Some.insn pass _ w.in_ok-rule.field-0 small lt fetched fit follows v in
      record {
        rest = sym (refused_at caps heads code table slot w.in-Some.insn None at (sym rule ∙ w.in_default-2.is)) ∙ c.loop-slot.invariant.rest;
        fit = fit_more caps heads code slot c.loop-slot.invariant.fit (subst FitsIf (its caps heads code slot w.in-Some.insn pass _ w.in_ok-rule.field-0 small lt fetched fit follows v) v.fits);
        follows = subst (Follows caps heads code (slot + 1)) (sym w.self-is) (follows_more caps heads code slot w.in-Some.insn pass _ w.in_ok-rule.field-0 small lt fetched fit follows v c.requires.spaced w.in_default-2.is);
      }
  | in_default w ↦
      let m = c.args.method.now in
      let caps = m.caps.now in
      let heads = m.heads.now in
      let code = m.code.now in
      let slot = c.loop-slot.slot in
      let pass = c.loop-slot.self in
      let lt : slot < length code = omega arith in
      let at : slice_get code slot ≡ Some None = slice_get_read code (length code) slot _ refl lt c.begun-item.is ∙ ap Some w.in_default.is in
      let fetched = ap (λ o. o >>= λ i. i) at in
      record {
        rest = sym (refused_over caps heads code (loop_table caps heads code) slot at) ∙ c.loop-slot.invariant.rest;
        fit = fit_over caps heads code slot c.loop-slot.invariant.fit fetched;
        follows = subst (Follows caps heads code (slot + 1)) (sym w.self-is) (follows_over caps heads code slot pass fetched c.loop-slot.invariant.follows);
      }
]

pub returns-clause-fits : goal.returns-clause-fits
returns-clause-fits c = λ none p i at.
    c.loop-slot.invariant.fit p i (omega (arith, slice_get_within c.args.method.now.code.now p (Some i) (inner _ _ at))) at
