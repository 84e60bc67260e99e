use Rattle.std.proofs.Common.{◌≤◌, ◌∷◌, [], ◌++◌, ap, sym, ◌∙◌, length, take, arith}
use Rattle.std.proofs.lemmas.List.{take_more, take_all, get_or_read}
use Rattle.pg_log.specs.Entries.{requests_of}
use Rattle.pg_log.proofs.Kept.{requests_of-push}
use Rattle.pg_log.proofs.request_list.copy_log.Goals as goal

pub loop-entry-preserved : goal.loop-entry-preserved
loop-entry-preserved c =
    let k = c.loop-entry.entry-index in
    let es = c.args.entries.now in
    let e = c.entry-item.result in
    c.in_ok-add_copy.ensures.ok ∙ ap (λ w. w ++ e.request ∷ []) c.loop-entry.invariant ∙ sym (requests_of-push (take k es) e)
    ∙ ap (λ x. requests_of (take k es ++ x ∷ [])) (get_or_read es k e c.loop-entry-test.true c.entry-item.is e)
    ∙ ap requests_of (sym (take_more es k e c.loop-entry-test.true))

pub returns-clause-ok : goal.returns-clause-ok
returns-clause-ok c =
    let k = c.loop-entry.entry-index in
    let es = c.args.entries.now in
    let done : length es ≤ k = omega arith in
    c.loop-entry.invariant ∙ ap requests_of (take_all k es done)
