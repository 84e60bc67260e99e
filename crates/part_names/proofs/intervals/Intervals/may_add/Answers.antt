use Rattle.std.proofs.Common.{◌≡◌, cond, [], ◌∷◌, Some, length, ◌+◌, ◌-◌, List, arith, ap, sym, ◌∙◌}
use Rattle.std.specs.List.{slice_get}
use Rattle.std.proofs.lemmas.Option.{slice_get_within}
use Rattle.std.specs.Option.{option_copied}
use Rattle.part_names.specs.Order.{Interval, is_bound, is_before, everything, may_follow, all_end_below}
use Rattle.part_names.proofs.Bounds.{last_decides, follow_rest}
use Rattle.part_names.proofs.intervals.Intervals.may_add.Goals as goal

pub returns-in-Some : goal.returns-in-Some
returns-in-Some c =
    let is = c.self.inside.list.items in
    let lo = c.args.lo.now in
    let hi = option_copied c.args.hi in
    let last : slice_get is (length is - 1) ≡ Some c.in-Some.interval.now = ap (λ (l : List Interval). slice_get l (length l - 1)) (sym c.deref.ensures.value) ∙ sym c.in-Some.ensures.value in
    let many : length is ≡ length is - 1 + 1 = omega (arith, slice_get_within is (length is - 1) c.in-Some.interval.now last) in
    c.ends_below.ensures ∙ last_decides is (length is - 1) c.in-Some.interval.now lo c.self.invariant many last
    ∙ follow_rest (is_bound (Some lo)) (is_bound hi) (is_before lo hi) (all_end_below is lo)
    (sym c.is_bound.ensures ∙ c.if-not-is_bound.false) (sym c.is_bound-else-not-is_bound.ensures ∙ c.if-not-is_bound-2.false) (sym c.is_before.ensures ∙ c.if-not-is_before.false)
    ∙ ap (λ b. may_follow (cond b (everything ∷ []) is) lo hi) (sym c.if-self.false)
    ∙ ap (λ l. may_follow l lo hi) c.self.view_is
