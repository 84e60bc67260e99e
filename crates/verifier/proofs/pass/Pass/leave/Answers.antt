use Rattle.std.proofs.Common.{◌≡◌, ◌+◌, Some, refl, sym, ap, ◌∙◌}
use Rattle.bpf_decode.specs.Instruction.{slot_count}
use Rattle.abstract_num.specs.Plain.{view}
use Rattle.abstract_regs.specs.Edged.{with_edges, refined, heard}
use Rattle.abstract_regs.specs.Flow.{flow}
use Rattle.verifier.specs.Rules.{room_of}
use Rattle.verifier.specs.Answers.{answer_of}
use Rattle.verifier.specs.inner.Kept.{unbox}
use Rattle.verifier.specs.inner.Pass.{merged}
use Rattle.verifier.proofs.Tables.{is_sound, leaves_both, leaves_forks, leaves_one}
use Rattle.verifier.proofs.pass.Pass.leave.Goals as goal

pub returns-in_ok-keep-in-Branches-clause-left : goal.returns-in_ok-keep-in-Branches-clause-left
returns-in_ok-keep-in-Branches-clause-left c =
    let i = c.args.insn.now in
    let p = c.args.slot in
    let f = c.in-Some.frame.value in
    let h = c.flow.new.self in
    let kept = c.args.self.now.kept in
    let next = c.args.slot + slot_count c.args.insn.now in
    let answered : view c.answer-answer.result ≡ answer_of c.args.rules f i = c.answer-answer.ensures ∙ ap (λ g. answer_of c.args.rules g i) c.deref.ensures in
    leaves_both c.args.rules (unbox c.args.self.now.current) f (refined h c.in-Branches.compared c.flow.new.fallen) h kept _ i p c.in-Branches.target c.width.result
    (ap unbox (sym c.take.ensures.value ∙ c.in-Some.is))
    (ap (λ x. flow x (room_of i) (answer_of c.args.rules f i) i p f) (sym c.precision-precision.ensures) ∙ ap (λ room. flow c.precision-precision.result room (answer_of c.args.rules f i) i p f) (sym c.room.ensures) ∙ ap (λ x. flow c.precision-precision.result c.room.result x i p f) (sym answered) ∙ ap (flow c.precision-precision.result c.room.result (view c.answer-answer.result) i p) (sym c.deref_mut.ensures.value) ∙ c.flow.ensures.table ∙ ap (λ e. with_edges c.precision-precision.result e c.flow.new.fallen next h) c.in-Branches.is)
    c.width.ensures (c.in_ok-keep-in-Branches.ensures ∙ ap (merged kept c.in-Branches.target) c.deref-in-Branches.ensures)
    (ap Some (c.refine.ensures ∙ ap (λ g. refined g c.in-Branches.compared c.flow.new.fallen) c.deref_mut-in-Branches.ensures.value)) refl

pub returns-in-Jumps-clause-left : goal.returns-in-Jumps-clause-left
returns-in-Jumps-clause-left c =
    let i = c.args.insn.now in
    let p = c.args.slot in
    let f = c.in-Some.frame.value in
    let h = c.flow.new.self in
    let kept = c.args.self.now.kept in
    let next = c.args.slot + slot_count c.args.insn.now in
    let answered : view c.answer-answer.result ≡ answer_of c.args.rules f i = c.answer-answer.ensures ∙ ap (λ g. answer_of c.args.rules g i) c.deref.ensures in
    leaves_one c.args.rules (unbox c.args.self.now.current) f h kept _ i p c.in-Jumps.target c.width.result
    (ap unbox (sym c.take.ensures.value ∙ c.in-Some.is))
    (ap (λ x. flow x (room_of i) (answer_of c.args.rules f i) i p f) (sym c.precision-precision.ensures) ∙ ap (λ room. flow c.precision-precision.result room (answer_of c.args.rules f i) i p f) (sym c.room.ensures) ∙ ap (λ x. flow c.precision-precision.result c.room.result x i p f) (sym answered) ∙ ap (flow c.precision-precision.result c.room.result (view c.answer-answer.result) i p) (sym c.deref_mut.ensures.value) ∙ c.flow.ensures.table ∙ ap (λ e. with_edges c.precision-precision.result e c.flow.new.fallen next h) c.in-Jumps.is)
    c.width.ensures c.give.ensures (ap unbox c.take.ensures.after) refl

pub returns-in-Leaves-clause-sound : goal.returns-in-Leaves-clause-sound
returns-in-Leaves-clause-sound c =
    is_sound c.args.rules (unbox c.args.self.now.current) c.in-Some.frame.value c.deref_mut.result.now c.precision-precision.result c.room.result (view c.answer-answer.result) c.args.insn.now c.args.slot (ap unbox (sym c.take.ensures.value ∙ c.in-Some.is)) c.deref_mut.ensures.value c.precision-precision.ensures c.room.ensures
    (c.answer-answer.ensures ∙ ap (λ g. answer_of c.args.rules g c.args.insn.now) (c.deref.ensures ∙ sym c.deref_mut.ensures.value)) c.flow.ensures.keeps c.flow.ensures.fits

pub returns-in-Falls-clause-sound : goal.returns-in-Falls-clause-sound
returns-in-Falls-clause-sound c =
    is_sound c.args.rules (unbox c.args.self.now.current) c.in-Some.frame.value c.deref_mut.result.now c.precision-precision.result c.room.result (view c.answer-answer.result) c.args.insn.now c.args.slot (ap unbox (sym c.take.ensures.value ∙ c.in-Some.is)) c.deref_mut.ensures.value c.precision-precision.ensures c.room.ensures
    (c.answer-answer.ensures ∙ ap (λ g. answer_of c.args.rules g c.args.insn.now) (c.deref.ensures ∙ sym c.deref_mut.ensures.value)) c.flow.ensures.keeps c.flow.ensures.fits

pub returns-in-Jumps-clause-sound : goal.returns-in-Jumps-clause-sound
returns-in-Jumps-clause-sound c =
    is_sound c.args.rules (unbox c.args.self.now.current) c.in-Some.frame.value c.deref_mut.result.now c.precision-precision.result c.room.result (view c.answer-answer.result) c.args.insn.now c.args.slot (ap unbox (sym c.take.ensures.value ∙ c.in-Some.is)) c.deref_mut.ensures.value c.precision-precision.ensures c.room.ensures
    (c.answer-answer.ensures ∙ ap (λ g. answer_of c.args.rules g c.args.insn.now) (c.deref.ensures ∙ sym c.deref_mut.ensures.value)) c.flow.ensures.keeps c.flow.ensures.fits

pub returns-in_ok-keep-in-Branches-clause-sound : goal.returns-in_ok-keep-in-Branches-clause-sound
returns-in_ok-keep-in-Branches-clause-sound c =
    is_sound c.args.rules (unbox c.args.self.now.current) c.in-Some.frame.value c.deref_mut.result.now c.precision-precision.result c.room.result (view c.answer-answer.result) c.args.insn.now c.args.slot (ap unbox (sym c.take.ensures.value ∙ c.in-Some.is)) c.deref_mut.ensures.value c.precision-precision.ensures c.room.ensures
    (c.answer-answer.ensures ∙ ap (λ g. answer_of c.args.rules g c.args.insn.now) (c.deref.ensures ∙ sym c.deref_mut.ensures.value)) c.flow.ensures.keeps c.flow.ensures.fits

pub returns-in_ok-fork-in-Forks-clause-left : goal.returns-in_ok-fork-in-Forks-clause-left
returns-in_ok-fork-in-Forks-clause-left c =
    let i = c.args.insn.now in
    let p = c.args.slot in
    let f = c.in-Some.frame.value in
    let h = c.flow.new.self in
    let kept = c.args.self.now.kept in
    let precision = c.precision-precision.result in
    let compared = c.in-Forks.compared in
    let next = c.args.slot + slot_count c.args.insn.now in
    let answered : view c.answer-answer.result ≡ answer_of c.args.rules f i = c.answer-answer.ensures ∙ ap (λ g. answer_of c.args.rules g i) c.deref.ensures in
    leaves_forks c.args.rules (unbox c.args.self.now.current) f (heard precision h compared) (heard precision (refined h compared c.flow.new.fallen) compared) kept _ i p c.in-Forks.target c.width.result
    (ap unbox (sym c.take.ensures.value ∙ c.in-Some.is))
    (ap (λ x. flow x (room_of i) (answer_of c.args.rules f i) i p f) (sym c.precision-precision.ensures) ∙ ap (λ room. flow c.precision-precision.result room (answer_of c.args.rules f i) i p f) (sym c.room.ensures) ∙ ap (λ x. flow c.precision-precision.result c.room.result x i p f) (sym answered) ∙ ap (flow c.precision-precision.result c.room.result (view c.answer-answer.result) i p) (sym c.deref_mut.ensures.value) ∙ c.flow.ensures.table ∙ ap (λ e. with_edges c.precision-precision.result e c.flow.new.fallen next h) c.in-Forks.is)
    c.width.ensures c.in_ok-fork-in-Forks.ensures.taken c.in_ok-fork-in-Forks.ensures.fallen c.in_ok-fork-in-Forks.ensures.landing

pub returns-in_ok-fork-in-Forks-clause-sound : goal.returns-in_ok-fork-in-Forks-clause-sound
returns-in_ok-fork-in-Forks-clause-sound c =
    is_sound c.args.rules (unbox c.args.self.now.current) c.in-Some.frame.value c.deref_mut.result.now c.precision-precision.result c.room.result (view c.answer-answer.result) c.args.insn.now c.args.slot (ap unbox (sym c.take.ensures.value ∙ c.in-Some.is)) c.deref_mut.ensures.value c.precision-precision.ensures c.room.ensures
    (c.answer-answer.ensures ∙ ap (λ g. answer_of c.args.rules g c.args.insn.now) (c.deref.ensures ∙ sym c.deref_mut.ensures.value)) c.flow.ensures.keeps c.flow.ensures.fits
