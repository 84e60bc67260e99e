use Rattle.std.proofs.Common.{ℕ, subst}
use Rattle.std.specs.Option.{option_copied}
use Rattle.loop_objects.specs.Calls.{AnswersBudget}
use Rattle.loop_objects.specs.inner.Making.{IsOutcomeOf}
use Rattle.loop_objects.proofs.Entire.{on_ok}
use Rattle.loop_objects.proofs.Outcomes.{answers_budget, makes}
use Rattle.loop_objects.proofs.calls.call_looped.Goals as goal

pub outcome-requires : goal.outcome-requires
outcome-requires c =
    let m = c.args.looped.now.method.now in
    let n = c.in_ok-answer.ensures.answered m c.budgeted-taken.ensures.runs in
    (n.answers.object, makes m c.budgeted-taken.result.budget (option_copied c.args.object) c.args.given.caller c.args.given.input.now c.in_ok-answer.answer n)

pub returns-clause-ok : goal.returns-clause-ok
returns-clause-ok c =
    let m = c.args.looped.now.method.now in
    let o = option_copied c.args.object in
    let a = c.in_ok-answer.answer in
    let budget = c.budgeted-taken.result.budget in
    let n = c.in_ok-answer.ensures.answered m c.budgeted-taken.ensures.runs in
    on_ok c.outcome.result (IsOutcomeOf o a) (AnswersBudget m c.args.looped.now.run.now.budget o c.args.given.caller c.args.given.input.now)
    (λ out h. subst (λ (b : ℕ). AnswersBudget m b o c.args.given.caller c.args.given.input.now out) c.budgeted-taken.ensures.budget (answers_budget m budget o c.args.given.caller c.args.given.input.now a out n h)) c.outcome.ensures.outcome
