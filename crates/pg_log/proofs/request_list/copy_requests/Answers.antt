use Rattle.std.proofs.Common.{◌≤◌, ◌∷◌, [], ◌++◌, ap, sym, ◌∙◌, length, take, arith}
use Rattle.std.proofs.lemmas.List.{take_more, take_all, get_or_read}
use Rattle.pg_log.proofs.request_list.copy_requests.Goals as goal

pub loop-request-preserved : goal.loop-request-preserved
loop-request-preserved c =
    let k = c.loop-request.request-index in
    let rs = c.args.list.now in
    let r = c.request-item.result in
    c.in_ok-add_copy.ensures.ok ∙ ap (λ w. w ++ r ∷ []) c.loop-request.invariant ∙ ap (λ x. take k rs ++ x ∷ []) (get_or_read rs k r c.loop-request-test.true c.request-item.is r)
    ∙ sym (take_more rs k r c.loop-request-test.true)

pub returns-clause-ok : goal.returns-clause-ok
returns-clause-ok c =
    let k = c.loop-request.request-index in
    let rs = c.args.list.now in
    let done : length rs ≤ k = omega arith in
    c.loop-request.invariant ∙ take_all k rs done
