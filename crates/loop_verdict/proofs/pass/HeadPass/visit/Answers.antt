use Rattle.std.proofs.Common.{Some, None, refl, ap, ◌∙◌, sym}
use Rattle.std.proofs.lemmas.Option.{none-some}
use Rattle.loop_tables.specs.Verdict.{or_back}
use Rattle.loop_verdict.specs.inner.Pass.{back_of, keeps_back, kept_for}
use Rattle.loop_verdict.proofs.Visits.{visited}
use Rattle.loop_verdict.proofs.pass.HeadPass.visit.Goals as goal

pub returns-in-Some : goal.returns-in-Some
returns-in-Some c =
    let m = c.args.method.now in
    let entered = c.in_ok-enter.ensures in
    let kept = c.enter.new.self.heads in
    visited m.caps.now m.heads.now m.code.now c.args.insn.now c.args.slot c.args.self.now c.enter.new.self c.arrive.new.self c.enter.new.self.flows kept c.refusing_rule-refused.result (Some c.in-Some.rule) None
    c.arrive.ensures.current c.arrive.ensures.pending entered.current entered.pending entered.heads refl c.fit.ensures c.refusing_rule-refused.ensures
    (sym (ap (λ o. or_back o (back_of (keeps_back (kept_for kept) None))) c.in-Some.is)) (λ none. absurd (none-some _ (sym none ∙ c.in-Some.is)))

pub returns-then-keeps : goal.returns-then-keeps
returns-then-keeps c =
    let m = c.args.method.now in
    let entered = c.in_ok-enter.ensures in
    let kept = c.enter.new.self.heads in
    let back = c.in_ok-back.back in
    visited m.caps.now m.heads.now m.code.now c.args.insn.now c.args.slot c.args.self.now _ c.arrive.new.self c.enter.new.self.flows kept c.refusing_rule-refused.result None back
    c.arrive.ensures.current c.arrive.ensures.pending entered.current entered.pending entered.heads refl c.fit.ensures c.refusing_rule-refused.ensures
    (sym (ap (λ o. or_back o (back_of (keeps_back (kept_for kept) back))) c.in_default.is ∙ ap back_of (sym c.keeps.ensures ∙ c.if-keeps.true))) (λ none. c.in_ok-back.ensures)

pub returns : goal.returns
returns c =
    let m = c.args.method.now in
    let entered = c.in_ok-enter.ensures in
    let kept = c.enter.new.self.heads in
    let back = c.in_ok-back.back in
    visited m.caps.now m.heads.now m.code.now c.args.insn.now c.args.slot c.args.self.now _ c.arrive.new.self c.enter.new.self.flows kept c.refusing_rule-refused.result _ back
    c.arrive.ensures.current c.arrive.ensures.pending entered.current entered.pending entered.heads refl c.fit.ensures c.refusing_rule-refused.ensures
    (sym (ap (λ o. or_back o (back_of (keeps_back (kept_for kept) back))) c.in_default.is ∙ ap back_of (sym c.keeps.ensures ∙ c.if-keeps.false))) (λ none. c.in_ok-back.ensures)
