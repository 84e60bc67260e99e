use Rattle.std.proofs.Common.{subst}
use Rattle.std.specs.Option.{option_copied}
use Rattle.object_store.specs.declared.limits.Limits.{Limits}
use Rattle.loop_calls.specs.ByBudget.{AnswersOnByBudget}
use Rattle.loop_objects.proofs.Needless.{no_need}
use Rattle.loop_objects.proofs.Outcomes.{any_object, is_answered}
use Rattle.loop_objects.proofs.run.run_by_budget.Goals as goal

pub returns-in-Ok-clause-answered : goal.returns-in-Ok-clause-answered
returns-in-Ok-clause-answered c = λ m b.
    let o = option_copied c.args.object in
    let budget = c.args.method.now.budget in
    let come = c.in-Ok.ensures.ok m b o (record { stands = c.in_ok-part.ensures.stands; formed = any_object o c.is_object.ensures }) in
    let answers = subst (λ (l : Limits). AnswersOnByBudget l m budget o c.args.given.caller c.args.given.input.now c.in-Ok.answer) c.profile.ensures come in
    is_answered c.blind_steps.ensures c.edits_lead.ensures c.decoded.ensures.begins c.decoded.ensures.elsewhere c.layouts.ensures m b.method budget o c.args.given.caller c.args.given.input.now c.in-Ok.answer answers

pub refusal_of-requires : goal.refusal_of-requires
refusal_of-requires c = no_need _ _ _ _ _ _ c.in_ok-part.ensures.known c.in-Err.stop (c.in-Err.ensures.stopped c.requires.method.0 c.requires.method.1)
