use Rattle.std.proofs.Common.{inr}
use Rattle.std.proofs.lemmas.Result.{err_from_is_err_and}
use Rattle.loop_bytes.specs.Reading.{place_from, after_place}
use Rattle.loop_bytes.proofs.Turns.{begins, goes_on, ends, is_done}
use Rattle.loop_bytes.proofs.reading.places_from.Goals as goal

pub loop-init : goal.loop-init
loop-init c = begins (place_from c.args.slot) after_place c.args.count 0 c.args.bytes.now c.new-places.result.items c.new-places.ensures.items

pub returns-in_err-place : goal.returns-in_err-place
returns-in_err-place c =
    let p = err_from_is_err_and c.from_residual.result c.from_residual.ensures.1 in
    rw (p.1, p.2) (inr (ends (place_from c.args.slot) after_place c.args.count 0 c.args.bytes.now c.loop.places.items c.loop.counter c.loop.least c.loop.rest.now c.in_err-place.field-0.0 c.loop-test.true c.in_err-place.ensures.read c.loop.invariant))

pub loop-preserved : goal.loop-preserved
loop-preserved c = rw c.in_ok-push.ensures.items (goes_on (place_from c.args.slot) after_place c.args.count 0 c.args.bytes.now c.loop.places.items c.loop.counter c.loop.least c.loop.rest.now c.in_ok-place.place c.in_ok-place.behind.now c.loop-test.true c.in_ok-place.ensures.read c.loop.invariant)

pub returns : goal.returns
returns c = is_done (place_from c.args.slot) after_place c.args.count 0 c.args.bytes.now c.loop.places.items c.loop.counter c.loop.least c.loop.rest.now c.loop-test.false c.loop.invariant
