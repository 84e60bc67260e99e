use Rattle.std.proofs.Common.{◌∙◌, ℕ, List, subst}
use Rattle.std.specs.Option.{option_copied}
use Rattle.interp.specs.Plain.{AnswersMethod}
use Rattle.pg_log.proofs.Ran.{ran}
use Rattle.pg_log.proofs.group.append.run_method.Goals as goal

pub returns-in-Ok-clause-ok : goal.returns-in-Ok-clause-ok
returns-in-Ok-clause-ok c =
    let m = c.args.method.now in
    let r = c.args.request.now in
    let object = option_copied c.args.object in
    let o = c.in-Ok.outcome in
    let Q : ℕ → Type 0 = λ w. AnswersMethod m object w c.input.result.now o in
    let R : List ℕ → Type 0 = λ w. AnswersMethod m object r.client w o in
    ran c.outcomes.ensures m c.ops.ensures.verified.method object r o
    (subst R c.input.ensures (subst Q (c.get.ensures.value ∙ c.client.ensures) c.in-Ok.ensures.ok))

pub returns-in-Ok-clause-safe : goal.returns-in-Ok-clause-safe
returns-in-Ok-clause-safe c = c.ops.ensures.verified.safe
