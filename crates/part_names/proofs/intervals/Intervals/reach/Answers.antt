use Rattle.std.proofs.Common.{cond, [], ◌∷◌, Some, ap, sym, subst, ◌∙◌}
use Rattle.std.specs.Option.{option_copied}
use Rattle.part_names.specs.Order.{everything, is_held}
use Rattle.part_names.specs.Apart.{IsReach, holder}
use Rattle.part_names.proofs.Bounds.{everything_holds, reach_end, reach_itself}
use Rattle.part_names.proofs.intervals.Intervals.reach.Goals as goal

pub returns-then-self : goal.returns-then-self
returns-then-self c = λ a p q.
    ap (λ is. is_held is a) (sym c.self.view_is) ∙ ap (λ b. is_held (cond b (everything ∷ []) c.self.inside.list.items) a) c.if-self.true ∙ everything_holds a

pub returns-in-Some : goal.returns-in-Some
returns-in-Some c =
    subst (λ is. IsReach is c.args.from.now (option_copied c.hi.result)) (ap (λ b. cond b (everything ∷ []) c.self.inside.list.items) (sym c.if-self.false) ∙ c.self.view_is)
    (reach_end c.self.inside.list.items c.args.from.now c.in-Some.interval.now (ap (λ l. holder l c.args.from.now) (sym c.deref.ensures.value) ∙ sym c.in-Some.ensures) (option_copied c.hi.result) c.self.invariant (sym c.hi.ensures))

pub returns-in-None : goal.returns-in-None
returns-in-None c =
    subst (λ is. IsReach is c.args.from.now (Some c.args.from.now)) (ap (λ b. cond b (everything ∷ []) c.self.inside.list.items) (sym c.if-self.false) ∙ c.self.view_is)
    (reach_itself c.self.inside.list.items c.args.from.now (ap (λ l. holder l c.args.from.now) (sym c.deref.ensures.value) ∙ sym c.in-None.ensures) c.requires)
