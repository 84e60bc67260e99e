use Rattle.std.proofs.Common.{◌≡◌, ◌∙◌, sym, subst, Some, List, ℕ, slice_set, arith}
use Rattle.helpers.specs.declared.helper.Helper.{Helper}
use Rattle.helpers.specs.Table.{helper_of, row}
use Rattle.bpf_machine.specs.Flat.{help}
use Rattle.bpf_machine.specs.Safe.{first_layout}
use Rattle.part_calls.specs.declared.run.PartRun.{PartRun}
use Rattle.interp.specs.inner.Asked.{CanAsk}
use Rattle.part_calls.specs.inner.PartRun.{PartDoes}
use Rattle.interp.proofs.Effects.{some_same}
use Rattle.part_calls.proofs.PartEffects.{can_ask_part, memory_length, part_does}
use Rattle.part_calls.proofs.ask.ask_part.Goals as goal

pub answer_part-requires-clause-small : goal.answer_part-requires-clause-small
answer_part-requires-clause-small c =
    let run = c.args.run.now in
    omega (arith, memory_length c.blind_steps.ensures run c.args.memory.now c.requires.can.0 c.requires.can.1, c.memory_size.ensures.size, c.memory_size.ensures.small)

pub answer_part-requires-clause-can : goal.answer_part-requires-clause-can
answer_part-requires-clause-can c =
    let run = c.args.run.now in
    let can = can_ask_part c.blind_steps.ensures run c.args.memory.now c.args.id c.requires.can in
    let is : can.0 ≡ c.in-Some.helper = some_same can.0 c.in-Some.helper (sym can.1 ∙ sym c.of.ensures ∙ c.in-Some.is) in
    subst (λ (h : Helper). CanAsk run.registers c.args.memory.now (row h).takes.arguments 1) is can.2

pub returns-clause-done : goal.returns-clause-done
returns-clause-done c =
    let run = c.args.run.now in
    let bytes = c.args.memory.now in
    let new = c.answer_part.new.run in
    let text = c.answer_part.new.memory in
    let n = c.in_ok-answer-in-Some.answer in
    let a = c.in_ok-answer-in-Some.ensures in
    let found : helper_of c.args.id ≡ Some c.in-Some.helper = sym c.of.ensures ∙ c.in-Some.is in
    let act = help run.caps (first_layout run.caps) c.args.id in
    let R : PartRun → Type 0 = λ r. PartDoes run bytes (record new { caps = r.caps; limits = r.limits; registers = slice_set r.registers 0 n; caller = r.caller }) text act in
    let N : List ℕ → Type 0 = λ l. PartDoes run bytes (record new { registers = l }) text act in
    subst N (sym c.set_answer.ensures)
    (subst R (sym a.rest) (part_does c.blind_steps.ensures run bytes c.args.id c.in-Some.helper new.part new.out_len n text found a.done))

pub returns-clause-learns : goal.returns-clause-learns
returns-clause-learns c =
    let found : helper_of c.args.id ≡ Some c.in-Some.helper = sym c.of.ensures ∙ c.in-Some.is in
    let a = c.in_ok-answer-in-Some.ensures in
    (c.in-Some.helper, found, (c.in_ok-answer-in-Some.answer, a.done.answer, a.learns))
