use Rattle.std.proofs.Common.{◌≡◌, ◌∙◌, ap, refl, Some, None, take, drop, ◌+◌, sym, ◌⊎◌, [], ◌∷◌, ◌++◌}
use Rattle.std.specs.List.{slice_get}
use Rattle.std.proofs.lemmas.Option.{slice_get_read}
use Rattle.std.proofs.lemmas.Result.{err_from_is_err_and}
use Rattle.pg_log.specs.declared.log_error.LogError.TheVariants.{NoMemory}
use Rattle.pg_log.specs.Refusals.{refusal, or_else, first_refusal, first_refusal_from, SomeCanRun, Refuses}
use Rattle.pg_log.proofs.Lists.{take_get, drop_get}
use Rattle.pg_log.proofs.Exact.{unrefused_next}
use Rattle.pg_log.proofs.Adopted.{list_refuses}
use Rattle.pg_log.proofs.group.Group.run_all.Goals as goal

pub returns-in_err-run_next-clause-err : goal.returns-in_err-run_next-clause-err
returns-in_err-run_next-clause-err g c =
    let table = c.args.table.now in
    let list = c.args.list.now in
    let k = c.loop-request.request-index in
    let r = c.request-item.result in
    let e = c.in_err-run_next.field-0.0 in
    let at : slice_get list k ≡ Some r = slice_get_read list _ k r refl c.loop-request-test.true c.request-item.is in
    let why : Refuses (refusal table (take k list) r) e = rw (sym c.loop-request.invariant.done) c.in_err-run_next.ensures.err in
    let fact : (first_refusal table list ≡ Some e) ⊎ ((e ≡ NoMemory) × SomeCanRun table list) = list_refuses table list k r e at c.loop-request.invariant.run c.loop-request.invariant.left why in
    let p = err_from_is_err_and c.from_residual.result c.from_residual.ensures.1 in
    rw (p.1, p.2) fact

pub loop-request-preserved : goal.loop-request-preserved
loop-request-preserved g c =
    let table = c.args.table.now in
    let list = c.args.list.now in
    let k = c.loop-request.request-index in
    let r = c.request-item.result in
    let next = c.in_ok-run_next.ensures.ok in
    let at : slice_get list k ≡ Some r = slice_get_read list _ k r refl c.loop-request-test.true c.request-item.is in
    let why : refusal table (take k list) r ≡ None = ap (λ w. refusal table w r) (sym c.loop-request.invariant.done) ∙ next.1 in
    let longer = take_get list k r at in
    record {
      done = next.0 ∙ ap (λ w. w ++ r ∷ []) c.loop-request.invariant.done ∙ sym longer;
      run = unrefused_next table list k r at c.loop-request.invariant.run why;
      left =
          c.loop-request.invariant.left ∙ ap (first_refusal_from table (take k list)) (drop_get list k r at)
          ∙ ap (λ o. or_else o (first_refusal_from table (take k list ++ r ∷ []) (drop (k + 1) list))) why
          ∙ ap (λ w. first_refusal_from table w (drop (k + 1) list)) (sym longer);
    }
