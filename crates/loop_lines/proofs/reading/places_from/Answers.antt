use Rattle.std.proofs.Common.{◌≡◌, ◌∙◌, ap, inr, true, map, ℕ, List, Bor, is_ok, arith}
use Rattle.std.proofs.lemmas.Grind.{common_steps}
use Rattle.std.proofs.lemmas.Result.{err_from_is_err_and}
use Rattle.loop_lines.specs.Reading.{place_of}
use Rattle.loop_lines.proofs.Turns.{added, begins, goes_on, ends, is_done}
use Rattle.loop_lines.proofs.Right.{right_of}
use Rattle.loop_lines.proofs.reading.places_from.Goals as goal

pub loop-text-init : goal.loop-text-init
loop-text-init c = begins c.args.texts.now c.new-places.result.items c.new-places.ensures.items

pub returns-in_err-place-clause-exact : goal.returns-in_err-place-clause-exact
returns-in_err-place-clause-exact c =
    let p = err_from_is_err_and c.from_residual.result c.from_residual.ensures.1 in
    rw (p.1, p.2) (inr (ends c.args.texts.now c.loop-text.places.items c.loop-text.text-index c.loop-text.least _ c.in_err-place.field-0.0 c.loop-text-test.true (c.in_err-place.ensures.read ∙ ap (place_of c.loop-text.least) c.trim_start.ensures) c.loop-text.invariant))

pub loop-text-preserved : goal.loop-text-preserved
loop-text-preserved c =
    let ok : is_ok c.push.result ≡ true = grind (arith, common_steps, c.if-is_err.ensures.negation) in
    rw (added _ _ _ _ ok c.push.ensures.items) (goes_on c.args.texts.now c.loop-text.places.items c.loop-text.text-index c.loop-text.least _ c.in_ok-place.place c.loop-text-test.true (c.in_ok-place.ensures.read ∙ ap (place_of c.loop-text.least) c.trim_start.ensures) c.loop-text.invariant)

pub returns-clause-exact : goal.returns-clause-exact
returns-clause-exact c = is_done c.args.texts.now c.loop-text.places.items c.loop-text.text-index c.loop-text.least c.loop-text-test.false c.loop-text.invariant

pub returns-clause-right : goal.returns-clause-right
returns-clause-right c =
    right_of (map (λ (t : Bor (List ℕ)). t.now) c.args.texts.now) c.loop-text.places.items (is_done c.args.texts.now c.loop-text.places.items c.loop-text.text-index c.loop-text.least c.loop-text-test.false c.loop-text.invariant)
