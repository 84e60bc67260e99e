use Rattle.std.proofs.Common.{◌≡◌, ◌+◌, Some, ap, ◌∙◌, sym, subst}
use Rattle.bpf_decode.specs.Instruction.{slot_count}
use Rattle.bpf_decode.specs.declared.rule_set.RuleSet.TheVariants.{Three}
use Rattle.abstract_num.specs.declared.precision.Precision.TheVariants.{Halves}
use Rattle.abstract_num.specs.Plain.{view}
use Rattle.abstract_regs.specs.Edged.{with_edges, refined, heard}
use Rattle.abstract_regs.specs.Flow.{flow}
use Rattle.verifier.specs.Answers.{answer_of}
use Rattle.verifier.specs.Rules.{room_of}
use Rattle.verifier.specs.inner.Kept.{unbox}
use Rattle.loop_verdict.specs.inner.Pass.{HasSent, HasGone}
use Rattle.loop_verdict.proofs.Sends.{flowed, gone, goes_past}
use Rattle.loop_verdict.proofs.flows.Flows.flow.Goals as goal

pub returns-in_ok-taken-in-Branches-clause-gone : goal.returns-in_ok-taken-in-Branches-clause-gone
returns-in_ok-taken-in-Branches-clause-gone c =
    let i = c.args.insn.now in
    let p = c.args.slot in
    let f = c.args.frame.value in
    let h = c.flow.new.self in
    let old = c.args.self.now.pending in
    let next = p + slot_count i in
    let edges = flow Halves (room_of i) (answer_of Three f i) i p f in
    let target = c.in-Branches.target in
    let kinds = c.flow.new.fallen in
    let new = c.send-back.new.pending in
    let back = c.send-back.result in
    let y = refined h c.in-Branches.compared kinds in
    let answered : view c.answer-answer.result ≡ answer_of Three f i = c.answer-answer.ensures ∙ ap (λ g. answer_of Three g i) c.deref.ensures in
    let both = flowed i p f c.deref_mut.result.now h c.room.result (view c.answer-answer.result) c.flow.result kinds c.room.ensures answered c.deref_mut.ensures.value c.flow.ensures.table
    ∙ ap (λ e. with_edges Halves e kinds next h) c.in-Branches.is in
    let value = c.in_ok-taken-in-Branches.ensures.copied ∙ c.deref-in-Branches.ensures in
    let falls : c.refine.new.self ≡ y = c.refine.ensures ∙ ap (λ g. refined g c.in-Branches.compared kinds) c.deref_mut-in-Branches.ensures.value in
    let sent = subst (λ t. HasSent t p target (Some h) new back) c.in_ok-taken-in-Branches.ensures.left
    (subst (λ g. HasSent c.copy.new.self p target (Some g) new back) value c.send-back.ensures) in
    subst (λ g. HasGone old p next edges (Some g) new back) (sym falls) (gone old new p target next (Some h) (Some y) edges back (goes_past p i) both sent)

pub returns-in_ok-taken-in-Forks-clause-gone : goal.returns-in_ok-taken-in-Forks-clause-gone
returns-in_ok-taken-in-Forks-clause-gone c =
    let i = c.args.insn.now in
    let p = c.args.slot in
    let f = c.args.frame.value in
    let h = c.flow.new.self in
    let old = c.args.self.now.pending in
    let next = p + slot_count i in
    let edges = flow Halves (room_of i) (answer_of Three f i) i p f in
    let target = c.in-Forks.target in
    let compared = c.in-Forks.compared in
    let kinds = c.flow.new.fallen in
    let new = c.send-back-in-Forks.new.pending in
    let back = c.send-back-in-Forks.result in
    let x = heard Halves h compared in
    let y = heard Halves (refined h compared kinds) compared in
    let answered : view c.answer-answer.result ≡ answer_of Three f i = c.answer-answer.ensures ∙ ap (λ g. answer_of Three g i) c.deref.ensures in
    let both = flowed i p f c.deref_mut.result.now h c.room.result (view c.answer-answer.result) c.flow.result kinds c.room.ensures answered c.deref_mut.ensures.value c.flow.ensures.table
    ∙ ap (λ e. with_edges Halves e kinds next h) c.in-Forks.is in
    let told : unbox c.told.result ≡ x = c.told.ensures ∙ ap (λ g. heard Halves g compared) (c.in_ok-taken-in-Forks.ensures.copied ∙ c.deref-in-Forks.ensures) in
    let falls : unbox c.told-in-Forks.result ≡ y = c.told-in-Forks.ensures ∙ ap (λ g. heard Halves g compared) (c.refine-in-Forks.ensures ∙ ap (λ g. refined g compared kinds) c.deref_mut-in-Forks.ensures.value) in
    let sent = subst (λ t. HasSent t p target x new back) c.in_ok-taken-in-Forks.ensures.left
    (subst (λ o. HasSent c.copy-in-Forks.new.self p target o new back) told c.send-back-in-Forks.ensures) in
    subst (λ o. HasGone old p next edges o new back) (sym falls) (gone old new p target next x y edges back (goes_past p i) both sent)
