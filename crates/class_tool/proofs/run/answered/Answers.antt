use Rattle.std.proofs.Common.{Some, None, sym, subst}
use Rattle.std.specs.Prelude.{IfOk}
use Rattle.std.proofs.lemmas.Result.{IfOk-weaker}
use Rattle.object_store.specs.Object.{PlainObject}
use Rattle.class_tool.proofs.Reported.{IsAnswered, IsMadeBeside}
use Rattle.class_tool.proofs.run.answered.Goals as goal

pub returns-in-None-clause-ok : goal.returns-in-None-clause-ok
returns-in-None-clause-ok c =
    subst (λ (o : PlainObject). IfOk c.call_and_log.result (IsAnswered c.args.class c.args.asked.now o c.args.input.items)) (sym c.in-None.is) c.call_and_log.ensures.ok

pub returns-in-Some-clause-ok : goal.returns-in-Some-clause-ok
returns-in-Some-clause-ok c =
    let class = c.args.class in
    let call = c.args.asked.now in
    let input = c.args.input.items in
    let made = c.call_beside.ensures.ok in
    subst (λ (o : PlainObject). IfOk c.call_beside.result (IsAnswered class call o input)) (sym c.in-Some.is)
    (IfOk-weaker c.call_beside.result (IsMadeBeside class call c.in-Some.object input) (IsAnswered class call (Some c.in-Some.object) input)
    (λ report m. (m.0, m.1, m.2, tt, m.3, m.4)) (rw c.deref.ensures.value at made))
