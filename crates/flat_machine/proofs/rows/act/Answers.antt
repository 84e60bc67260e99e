use Rattle.std.proofs.Common.{sym, subst, arith}
use Rattle.std.proofs.lemmas.Grind.{common_steps}
use Rattle.std.specs.Prelude.{IfOk}
use Rattle.flat_machine.specs.StateView.{caps_in, layout_in, flat_state}
use Rattle.flat_machine.specs.inner.FlatState.{GivesState}
use Rattle.flat_machine.proofs.Row.{of_class, of_opcode}
use Rattle.flat_machine.proofs.rows.act.Goals as goal

pub returns-in-4-clause-acts : goal.returns-in-4-clause-acts
returns-in-4-clause-acts c =
    let is = of_class (caps_in c.args.s.now) (layout_in c.args.s.now) c.args.f c.args.next (flat_state c.args.s.now) 4 c.in-4.is in
    subst (λ step. GivesState c.alu_row.result (flat_state c.alu_row.new.s) step) (sym is) c.alu_row.ensures.row

pub returns-in-1-clause-acts : goal.returns-in-1-clause-acts
returns-in-1-clause-acts c =
    let is = of_class (caps_in c.args.s.now) (layout_in c.args.s.now) c.args.f c.args.next (flat_state c.args.s.now) 1 c.in-1.is in
    subst (λ step. GivesState c.ldx_row.result (flat_state c.ldx_row.new.s) step) (sym is) c.ldx_row.ensures.row

pub returns-in-2-clause-acts : goal.returns-in-2-clause-acts
returns-in-2-clause-acts c =
    let is = of_class (caps_in c.args.s.now) (layout_in c.args.s.now) c.args.f c.args.next (flat_state c.args.s.now) 2 c.in-2.is in
    subst (λ step. GivesState c.st_row.result (flat_state c.st_row.new.s) step) (sym is) c.st_row.ensures.row

pub returns-in-3-clause-acts : goal.returns-in-3-clause-acts
returns-in-3-clause-acts c =
    let is = of_class (caps_in c.args.s.now) (layout_in c.args.s.now) c.args.f c.args.next (flat_state c.args.s.now) 3 c.in-3.is in
    subst (λ step. GivesState c.stx_row.result (flat_state c.stx_row.new.s) step) (sym is) c.stx_row.ensures.row

pub returns-in-24-clause-acts : goal.returns-in-24-clause-acts
returns-in-24-clause-acts c =
    let is = of_opcode (caps_in c.args.s.now) (layout_in c.args.s.now) c.args.f c.args.next (flat_state c.args.s.now) 24 c.in-24.is in
    subst (λ step. GivesState c.wide_row.result (flat_state c.wide_row.new.s) step) (sym is) c.wide_row.ensures.row

pub returns-in-5-clause-acts : goal.returns-in-5-clause-acts
returns-in-5-clause-acts c =
    let is = of_opcode (caps_in c.args.s.now) (layout_in c.args.s.now) c.args.f c.args.next (flat_state c.args.s.now) 5 c.in-5.is in
    subst (λ step. GivesState c.ja_row.result (flat_state c.ja_row.new.s) step) (sym is) c.ja_row.ensures.row

pub returns-in-6-clause-acts : goal.returns-in-6-clause-acts
returns-in-6-clause-acts c =
    let is = of_opcode (caps_in c.args.s.now) (layout_in c.args.s.now) c.args.f c.args.next (flat_state c.args.s.now) 6 c.in-6.is in
    subst (λ step. GivesState c.ja32_row.result (flat_state c.ja32_row.new.s) step) (sym is) c.ja32_row.ensures.row

pub returns-in-133-clause-acts : goal.returns-in-133-clause-acts
returns-in-133-clause-acts c =
    let is = of_opcode (caps_in c.args.s.now) (layout_in c.args.s.now) c.args.f c.args.next (flat_state c.args.s.now) 133 c.in-133.is in
    subst (λ step. IfOk c.call_row.result (λ o. GivesState o (flat_state c.call_row.new.s) step)) (sym is) c.call_row.ensures.row

pub returns-in-7-clause-acts : goal.returns-in-7-clause-acts
returns-in-7-clause-acts c =
    let is = of_class (caps_in c.args.s.now) (layout_in c.args.s.now) c.args.f c.args.next (flat_state c.args.s.now) 7 c.in-7.is in
    subst (λ step. GivesState c.alu_row-in-7.result (flat_state c.alu_row-in-7.new.s) step) (sym is) c.alu_row-in-7.ensures.row

pub returns-in_default-class-clause-acts : goal.returns-in_default-class-clause-acts
returns-in_default-class-clause-acts c = grind (arith, common_steps)

pub returns-in-6-class-clause-acts : goal.returns-in-6-class-clause-acts
returns-in-6-class-clause-acts c = grind (arith, common_steps)

pub returns-in-5-class-clause-acts : goal.returns-in-5-class-clause-acts
returns-in-5-class-clause-acts c = grind (arith, common_steps)
