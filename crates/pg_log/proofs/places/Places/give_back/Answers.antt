use Rattle.std.proofs.Common.{◌≡◌, ◌∙◌, ap, sym, subst, refl, arith, List, length, take, Some}
use Rattle.std.specs.List.{slice_get}
use Rattle.std.proofs.lemmas.Option.{slice_get_read}
use Rattle.pg_log.specs.declared.entry.Entry.{Entry}
use Rattle.pg_log.specs.Requests.{ClientRequest}
use Rattle.pg_log.specs.Places.{ArePlaces}
use Rattle.pg_log.specs.Entries.{requests_of}
use Rattle.pg_log.proofs.Lists.{take_get}
use Rattle.pg_log.proofs.Kept.{requests_at, on_ok, length-requests}
use Rattle.pg_log.proofs.Adopted.{length-beginning}
use Rattle.pg_log.proofs.Room.{next_standing, room_later, has_error}
use Rattle.pg_log.proofs.places.Places.give_back.Goals as goal

pub unreachable-requires : goal.unreachable-requires
unreachable-requires c =
    let es = c.args.entries.now in
    let xs = requests_of es in
    let k = c.loop-place.place in
    let e = c.index-entries-place.result in
    let entry : slice_get es k ≡ Some e = slice_get_read es _ k e refl c.loop-place-test.true c.index-entries-place.is in
    let at : slice_get xs k ≡ Some e.request = requests_at es k e entry in
    let client = c.client.result in
    let asks = c.client.ensures ∙ ap (λ (w : Entry). w.request.client) (sym c.index-entries-place.is) in
    let less = next_standing client xs k e.request at (sym asks) in
    let room = c.loop-place.invariant.room client in
    let kept = ap (λ l. length l) (c.loop-place.invariant.places client) in
    has_error c.add.result (sym c.is_err.ensures.value ∙ c.if-is_err.true) (c.add.ensures.succeeds (omega (arith, less, room, kept)))

pub loop-place-preserved : goal.loop-place-preserved
loop-place-preserved c =
    let es = c.args.entries.now in
    let xs = requests_of es in
    let k = c.loop-place.place in
    let e = c.index-entries-place.result in
    let entry : slice_get es k ≡ Some e = slice_get_read es _ k e refl c.loop-place-test.true c.index-entries-place.is in
    let at : slice_get xs k ≡ Some e.request = requests_at es k e entry in
    let n = length-requests es xs refl in
    let long : k ≡ length (take k xs) = sym (length-beginning xs k (omega (arith, n, c.loop-place-test.true))) in
    let asks = c.client.ensures ∙ ap (λ (w : Entry). w.request.client) (sym c.index-entries-place.is) in
    let number = c.number.ensures ∙ ap (λ (w : Entry). w.request.number) (sym c.index-entries-place.is) in
    let put = on_ok c.add.result (sym c.is_err.ensures.value ∙ c.if-is_err.false) c.add.ensures.ok (take k xs) e.request c.loop-place.invariant.places asks number long in
    let P : List ClientRequest → Type 0 = ArePlaces c.add.new.self in
    record {
      places = subst P (sym (take_get xs k e.request at)) put;
      room = room_later c.loop-place.self c.add.new.self xs c.loop-place.invariant.room c.add.ensures.room;
    }
