use Rattle.std.proofs.Common.{ap, sym, subst, ◌∙◌, [], ◌∷◌, ◌++◌}
use Rattle.std.specs.Option.{option_copied}
use Rattle.part_names.specs.Order.{Interval, may_follow}
use Rattle.part_names.specs.Apart.{AreApart}
use Rattle.part_names.proofs.Bounds.{apart_after, listed_follow}
use Rattle.part_names.proofs.intervals.Intervals.add.Goals as goal

pub invariant_of-self-2 : goal.invariant_of-self-2
invariant_of-self-2 c =
    let lo = c.args.lo.now in
    let hi = option_copied c.args.hi in
    subst AreApart (sym (c.in_ok-push.ensures.items ∙ ap (λ (i : Interval). c.self.inside.list.items ++ i ∷ []) c.in_ok-interval.ensures))
    (apart_after c.self.inside.list.items lo hi c.self.invariant
    (listed_follow c.self.inside.all c.self.inside.list.items lo hi (ap (λ is. may_follow is lo hi) c.self.view_is ∙ c.requires)))
