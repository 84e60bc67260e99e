use Rattle.std.proofs.Common.{◌≡◌, ℕ, true, arith, sym, subst, ◌∙◌}
use Rattle.loop_frames.specs.declared.place.TheConstants.{PLACES}
use Rattle.loop_frames.specs.Below.{are_places_below}
use Rattle.loop_frames.proofs.Order.{none_below, more_below, not_below}
use Rattle.loop_frames.proofs.below.is_frame_below.Goals as goal

pub loop-place-init : goal.loop-place-init
loop-place-init c = none_below c.args.f.now c.args.g.now

pub loop-place-preserved : goal.loop-place-preserved
loop-place-preserved c =
    more_below c.args.f.now c.args.g.now c.loop-place.place c.loop-place.invariant (sym c.is_place_below.ensures ∙ c.if-not-is_place_below.false)

pub returns-then-not-is_place_below : goal.returns-then-not-is_place_below
returns-then-not-is_place_below c =
    sym (not_below c.args.f.now c.args.g.now PLACES c.loop-place.place (omega arith) (sym c.is_place_below.ensures ∙ c.if-not-is_place_below.true))

pub returns : goal.returns
returns c =
    let all : c.loop-place.place ≡ PLACES = omega arith in
    sym (subst (λ (n : ℕ). are_places_below c.args.f.now c.args.g.now n ≡ true) all c.loop-place.invariant)
