use Rattle.std.proofs.lemmas.Result.{err_from_is_err_and, IfOk-weaker, IfErr-weaker}
use Rattle.std.proofs.lemmas.Option.{same_Some}
use Rattle.std.proofs.Common.{◌≡◌, ◌∙◌, ap, sym, subst, Option, Some, None, true, false, arith, inl, inr, IfOk}
use Rattle.std.specs.FinMap as fin
use Rattle.std.specs.Option.{option_copied}
use Rattle.object_store.specs.Object.{PlainObject}
use Rattle.bpf_decode.specs.Class.{ClassMethod}
use Rattle.bpf_machine.specs.Safe.{IsSafe}
use Rattle.interp.specs.declared.outcome.Outcome.{Outcome}
use Rattle.pg_log.specs.declared.log_error.LogError.TheVariants.{NoMemory}
use Rattle.pg_log.specs.Log.{method_of}
use Rattle.pg_log.specs.Refusals.{is_reached, refusal, Refuses}
use Rattle.pg_log.specs.Entries.{IsOutcome}
use Rattle.pg_log.proofs.Ran.{refusal-full, refusal-stale, refusal-class}
use Rattle.pg_log.proofs.group.append.run_after.Goals as goal

pub returns-then-full-clause-err : goal.returns-then-full-clause-err
returns-then-full-clause-err c = λ xs n at rise. inl (refusal-full c.args.table.now xs c.args.request.now (omega arith))

pub returns-then-is_reached-clause-err : goal.returns-then-is_reached-clause-err
returns-then-is_reached-clause-err c = λ xs n at rise.
    let r = c.args.request.now in
    let reached : is_reached r.client r.number xs ≡ true =
    ap (λ k. is_reached k r.number xs) (sym c.client.ensures) ∙ ap (λ k. is_reached c.client.result k xs) (sym c.number.ensures)
    ∙ sym (c.is_reached.ensures xs at rise) ∙ c.if-is_reached.true in
    inl (refusal-stale c.args.table.now xs r (omega arith) reached)

pub returns-in_err-method-clause-err : goal.returns-in_err-method-clause-err
returns-in_err-method-clause-err c = λ xs n at rise.
    let r = c.args.request.now in
    let reached : is_reached r.client r.number xs ≡ false =
    ap (λ k. is_reached k r.number xs) (sym c.client.ensures) ∙ ap (λ k. is_reached c.client.result k xs) (sym c.number.ensures)
    ∙ sym (c.is_reached.ensures xs at rise) ∙ c.if-is_reached.false in
    let p = err_from_is_err_and c.from_residual.result c.from_residual.ensures.1 in
    rw (p.1, p.2) (inl (refusal-class c.args.table.now xs r (omega arith) reached ∙ c.in_err-method.ensures.err))

pub returns-clause-ok : goal.returns-clause-ok
returns-clause-ok c = λ xs n at rise.
    let r = c.args.request.now in
    let table = c.args.table.now in
    let method = c.in_ok-method.method.now in
    let reached : is_reached r.client r.number xs ≡ false =
    ap (λ k. is_reached k r.number xs) (sym c.client.ensures) ∙ ap (λ k. is_reached c.client.result k xs) (sym c.number.ensures)
    ∙ sym (c.is_reached.ensures xs at rise) ∙ c.if-is_reached.false in
    let why : refusal table xs r ≡ None = refusal-class table xs r (omega arith) reached ∙ c.in_ok-method.ensures.unrefused in
    let found : method_of table r ≡ Some method = c.in_ok-method.ensures.found in
    let object : option_copied c.get-object.result ≡ fin.get c.args.log.now.objects r.object = c.get-object.ensures ∙ ap (fin.get c.args.log.now.objects) c.object.ensures in
    let R : Outcome → Type 0 = λ o. IsOutcome (Some method) (option_copied c.get-object.result) r o.code o.output.items o.change in
    let S : Outcome → Type 0 = λ o. (refusal table xs r ≡ None) × IsOutcome (Some method) (option_copied c.get-object.result) r o.code o.output.items o.change in
    let B : Option ClassMethod → Type 0 = λ w. IfOk c.run_method.result (λ o. (refusal table xs r ≡ None) × IsOutcome w (option_copied c.get-object.result) r o.code o.output.items o.change) in
    let D : PlainObject → Type 0 = λ w. IfOk c.run_method.result (λ o. (refusal table xs r ≡ None) × IsOutcome (method_of table r) w r o.code o.output.items o.change) in
    subst D object (subst B (sym found) (IfOk-weaker c.run_method.result R S (λ o h. (why, h)) c.run_method.ensures.ok))

pub returns-clause-err : goal.returns-clause-err
returns-clause-err c = λ xs n at rise.
    let r = c.args.request.now in
    let table = c.args.table.now in
    let reached : is_reached r.client r.number xs ≡ false =
    ap (λ k. is_reached k r.number xs) (sym c.client.ensures) ∙ ap (λ k. is_reached c.client.result k xs) (sym c.number.ensures)
    ∙ sym (c.is_reached.ensures xs at rise) ∙ c.if-is_reached.false in
    let why : refusal table xs r ≡ None = refusal-class table xs r (omega arith) reached ∙ c.in_ok-method.ensures.unrefused in
    IfErr-weaker c.run_method.result (λ e. e ≡ NoMemory) (λ e. Refuses (refusal table xs r) e) (λ e h. inr (h, why)) c.run_method.ensures.err

pub returns-clause-safe : goal.returns-clause-safe
returns-clause-safe c =
    let r = c.args.request.now in
    let method = c.in_ok-method.method.now in
    let found : method_of c.args.table.now r ≡ Some method = c.in_ok-method.ensures.found in
    IfOk-weaker c.run_method.result (λ _. IsSafe method) (λ _. (m : ClassMethod) → method_of c.args.table.now r ≡ Some m → IsSafe m)
    (λ o h. λ m e. subst IsSafe (same_Some method m (sym found ∙ e)) h) c.run_method.ensures.safe
