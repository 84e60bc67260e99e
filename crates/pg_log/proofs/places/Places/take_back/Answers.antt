use Rattle.std.proofs.Common.{◌≡◌, ◌<◌, ◌∙◌, ap, sym, subst, refl, arith, List, [], ◌∷◌, ◌++◌, length, take, ◌+◌, ◌-◌, Some, get_or, append-nil, append_assoc}
use Rattle.std.specs.List.{slice_get}
use Rattle.std.proofs.lemmas.Option.{slice_get_read}
use Rattle.pg_log.specs.Requests.{ClientRequest}
use Rattle.pg_log.specs.Places.{ArePlaces}
use Rattle.pg_log.specs.Entries.{requests_of}
use Rattle.pg_log.proofs.Lists.{take_get}
use Rattle.pg_log.proofs.Kept.{requests_of-push}
use Rattle.pg_log.proofs.Room.{room_twice}
use Rattle.pg_log.proofs.places.Places.take_back.Goals as goal

pub loop-back-preserved : goal.loop-back-preserved
loop-back-preserved c =
    let es = c.args.entries.now in
    let k = length es - (c.loop-back.back + 1) in
    let e = c.index-entries-entries.result in
    let within : k < length es = omega (arith, c.loop-back-test.true) in
    let less : length es - 1 - c.loop-back.back ≡ k = omega arith in
    let at : slice_get es k ≡ Some e = slice_get_read es _ k e refl within (c.index-entries-entries.is ∙ ap (λ n. get_or es n e) less) in
    let more : length es - c.loop-back.back ≡ k + 1 = omega (arith, c.loop-back-test.true) in
    let last : requests_of (take (length es - c.loop-back.back) es) ≡ requests_of (take k es) ++ e.request ∷ [] =
    ap (λ n. requests_of (take n es)) more ∙ ap requests_of (take_get es k e at) ∙ requests_of-push (take k es) e in
    record {
      places = λ list h.
          let P : List ClientRequest → Type 0 = ArePlaces c.loop-back.self in
          c.remove.ensures.places (list ++ requests_of (take k es)) e.request
          (subst P (ap (λ (w : List ClientRequest). list ++ w) last ∙ sym (append_assoc list (requests_of (take k es)) (e.request ∷ []))) (c.loop-back.invariant.places list h)) c.client.ensures;
      room = room_twice c.args.self.now c.loop-back.self c.remove.new.self c.loop-back.invariant.room c.remove.ensures.room;
    }

pub returns-clause-places : goal.returns-clause-places
returns-clause-places c = λ list h.
    let es = c.args.entries.now in
    let none : length es - c.loop-back.back ≡ 0 = omega (arith, c.loop-back-test.false) in
    let P : List ClientRequest → Type 0 = ArePlaces c.loop-back.self in
    subst P (ap (λ n. list ++ requests_of (take n es)) none ∙ append-nil list) (c.loop-back.invariant.places list h)
