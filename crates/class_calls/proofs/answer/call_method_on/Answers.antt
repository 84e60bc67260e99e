use Rattle.std.proofs.Common.{ℕ, ap, subst}
use Rattle.interp.specs.Plain.{AnswersMethod, ListsMethod}
use Rattle.class_calls.specs.Answers.{RefusesToBegin}
use Rattle.class_calls.proofs.Begun.{not_begun}
use Rattle.class_calls.proofs.answer.call_method_on.Goals as goal

pub returns-in-Ok-call_method_listed-clause-ok : goal.returns-in-Ok-call_method_listed-clause-ok
returns-in-Ok-call_method_listed-clause-ok c = λ class named.
    let run = c.in-Ok-call_method_listed in
    let m = c.args.method.now in
    record {
      plain = c.in-Ok.object;
      spelled = c.in-Ok.ensures.begun.spelled;
      listed = run.listed;
      answers = record {
        method = m;
        named = named;
        short = run.ensures.short;
        answers = subst (λ o. AnswersMethod m o c.args.request.caller c.args.request.input.now run.listed.outcome) c.as_ref.ensures.value run.ensures.ok;
        lists = subst (λ o. ListsMethod m o c.args.request.caller c.args.request.input.now run.listed) c.as_ref.ensures.value run.ensures.list;
      };
      verified = c.ops.ensures.verified;
      client = c.in-Ok.ensures.begun.client;
      says = c.listed_answer.ensures;
    }

pub returns-in-Err-clause-refused : goal.returns-in-Err-clause-refused
returns-in-Err-clause-refused c = λ class named.
    let asked = c.args.request in
    let why = subst (λ (n : ℕ). RefusesToBegin n asked.object.now asked.caller asked.input.now c.in-Err.error) (ap (λ k. k.in_cap) c.caps.ensures) c.in-Err.ensures.refused in
    not_begun class asked.method.now asked.object.now asked.caller asked.input.now c.args.method.now named c.in-Err.error why
