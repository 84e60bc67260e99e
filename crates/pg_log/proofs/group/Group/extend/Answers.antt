use Rattle.std.proofs.Common.{◌≡◌, ◌∙◌, ap, sym, refl, arith, [], ◌∷◌, ◌++◌, take, Some, None}
use Rattle.std.proofs.lemmas.Grind.{common_steps}
use Rattle.std.specs.List.{slice_get}
use Rattle.std.proofs.lemmas.Option.{slice_get_read}
use Rattle.std.proofs.lemmas.Result.{err_from_is_err_and}
use Rattle.pg_log.specs.Refusals.{refusal}
use Rattle.pg_log.proofs.Lists.{take_get}
use Rattle.pg_log.proofs.Adopted.{prefix_on, rest_refuses, rest_more}
use Rattle.pg_log.proofs.Room.{room_twice}
use Rattle.pg_log.proofs.group.Group.extend.Goals as goal

pub returns-in_err-extend_by-clause-err : goal.returns-in_err-extend_by-clause-err
returns-in_err-extend_by-clause-err g c =
    let table = c.args.table.now in
    let list = c.args.list.now in
    let k = c.loop-k.k in
    let r = c.index-list-k.result in
    let at : slice_get list k ≡ Some r = slice_get_read list _ k r refl c.loop-k-test.true c.index-list-k.is in
    let p = err_from_is_err_and c.from_residual.result c.from_residual.ensures.1 in
    rw (p.1, p.2) (rest_refuses table list c.args.at k r c.in_err-extend_by.field-0.0 c.requires.within.0 at c.loop-k.invariant.left
    (rw (sym c.loop-k.invariant.done) c.in_err-extend_by.ensures.err))

pub returns-in_err-extend_by-clause-begun : goal.returns-in_err-extend_by-clause-begun
returns-in_err-extend_by-clause-begun g c = prefix_on c.args.log.now.entries.items c.loop-k.log.entries.items c.extend_by.new.log.entries.items c.loop-k.invariant.begun c.extend_by.ensures.begun

pub returns-in_err-extend_by-clause-room : goal.returns-in_err-extend_by-clause-room
returns-in_err-extend_by-clause-room g c = room_twice c.args.log.now.places c.loop-k.log.places c.extend_by.new.log.places c.loop-k.invariant.room c.extend_by.ensures.room

pub loop-k-preserved : goal.loop-k-preserved
loop-k-preserved g c =
    let table = c.args.table.now in
    let list = c.args.list.now in
    let k = c.loop-k.k in
    let es = c.loop-k.log.entries.items in
    let r = c.index-list-k.result in
    let next = c.in_ok-extend_by.ensures.ok in
    let at : slice_get list k ≡ Some r = slice_get_read list _ k r refl c.loop-k-test.true c.index-list-k.is in
    let why : refusal table (take k list) r ≡ None = ap (λ w. refusal table w r) (sym c.loop-k.invariant.done) ∙ next.1 in
    let room = c.extend_by.ensures.entries_room in
    record {
      kept = c.extend_by.ensures.kept;
      done = next.0 ∙ ap (λ w. w ++ r ∷ []) c.loop-k.invariant.done ∙ sym (take_get list k r at);
      left = c.loop-k.invariant.left ∙ rest_more table list k r at why;
      begun = prefix_on c.args.log.now.entries.items es c.extend_by.new.log.entries.items c.loop-k.invariant.begun c.extend_by.ensures.begun;
      entries_room = omega (arith, c.loop-k.invariant.entries_room, room);
      room = room_twice c.args.log.now.places c.loop-k.log.places c.extend_by.new.log.places c.loop-k.invariant.room c.extend_by.ensures.room;
    }

pub returns-clause-ok : goal.returns-clause-ok
returns-clause-ok g c = grind (arith, common_steps)
