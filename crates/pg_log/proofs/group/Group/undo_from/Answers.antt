use Rattle.std.proofs.Common.{◌≡◌, ◌<◌, ◌∙◌, ap, refl, arith, length, take, ◌+◌, ◌-◌, Some, get_or}
use Rattle.std.specs.List.{slice_get}
use Rattle.std.proofs.lemmas.Option.{slice_get_read}
use Rattle.pg_log.specs.Log.{fold}
use Rattle.pg_log.specs.Entries.{requests_of, undone}
use Rattle.pg_log.proofs.Adopted.{undone_more, requests_of-take}
use Rattle.pg_log.proofs.group.Group.undo_from.Goals as goal

pub loop-back-preserved : goal.loop-back-preserved
loop-back-preserved g c =
    let classes = g.C.Classes.classes in
    let es = c.args.entries.now in
    let k = length es - (c.loop-back.back + 1) in
    let e = c.index-entries-entries.result in
    let within : k < length es = omega (arith, c.loop-back-test.true) in
    let less : length es - 1 - c.loop-back.back ≡ k = omega arith in
    let at : slice_get es k ≡ Some e = slice_get_read es _ k e refl within (c.index-entries-entries.is ∙ ap (λ n. get_or es n e) less) in
    let more : length es - c.loop-back.back ≡ k + 1 = omega (arith, c.loop-back-test.true) in
    c.in_ok-undo.ensures.ok ∙ ap (λ n. undone c.loop-back.objects n e.change) c.object.ensures
    ∙ undone_more classes es c.loop-back.objects k e c.requires.kept at (c.loop-back.invariant ∙ ap (λ n. fold classes (requests_of (take n es))) more)

pub returns-clause-ok : goal.returns-clause-ok
returns-clause-ok g c =
    let classes = g.C.Classes.classes in
    let es = c.args.entries.now in
    let all : length es - c.loop-back.back ≡ c.args.at = omega (arith, c.loop-back-test.false) in
    c.loop-back.invariant ∙ ap (λ n. fold classes (requests_of (take n es))) all ∙ ap (fold classes) (requests_of-take es c.args.at)
