use Rattle.std.proofs.Common.{◌≡◌, ◌∙◌, sym, subst, refl, Some, List, ℕ}
use Rattle.helpers.specs.declared.helper.Helper.{Helper}
use Rattle.helpers.specs.Table.{helper_of, row}
use Rattle.interp.specs.declared.run.Run.{Run}
use Rattle.bpf_machine.specs.Flat.{help}
use Rattle.bpf_machine.specs.Safe.{first_layout}
use Rattle.interp.specs.inner.Asked.{CanAsk}
use Rattle.interp.specs.inner.Run.{Does}
use Rattle.interp.proofs.Effects.{can_ask, does}
use Rattle.interp.proofs.ask.ask.Goals as goal

some_same : (g h : Helper) → Some g ≡ Some h → g ≡ h
some_same g h e = cc

pub answer-requires : goal.answer-requires
answer-requires c =
    let run = c.args.run.now in
    let can = can_ask run.caps run.staged.before run c.args.memory.now c.args.id c.requires in
    let is : can.0 ≡ c.in-Some.helper = some_same can.0 c.in-Some.helper (sym can.1 ∙ sym c.of.ensures ∙ c.in-Some.is) in
    subst (λ (h : Helper). CanAsk run.registers c.args.memory.now (row h).takes.arguments 1) is can.2

pub returns : goal.returns
returns c =
    let run = c.args.run.now in
    let bytes = c.args.memory.now in
    let a = c.in_ok-answer-in-Some.ensures in
    let after : Run = record run { staged = c.answer.new.staged; out_len = c.answer.new.out_len } in
    let found : helper_of c.args.id ≡ Some c.in-Some.helper = sym c.of.ensures ∙ c.in-Some.is in
    let N : List ℕ → Type 0 = λ l. Does run.caps run.staged.before run bytes (record after { registers = l }) c.answer.new.memory (help run.caps (first_layout run.caps) c.args.id) in
    subst N (sym c.set_answer.ensures)
    (does run.caps run.staged.before run bytes c.args.id c.in_ok-answer-in-Some.answer c.in-Some.helper after c.answer.new.memory found a.answer a.memory a.object a.before a.list a.out_len refl refl refl)
