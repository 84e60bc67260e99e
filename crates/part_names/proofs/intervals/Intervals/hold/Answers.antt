use Rattle.std.proofs.Common.{cond, [], ◌∷◌, is_some, ap, sym, ◌∙◌}
use Rattle.part_names.specs.Apart.{holder}
use Rattle.part_names.specs.Order.{is_held, everything}
use Rattle.part_names.proofs.Orders.{some_copied}
use Rattle.part_names.proofs.Bounds.{everything_holds, held_holder}
use Rattle.part_names.proofs.intervals.Intervals.hold.Goals as goal

pub returns-then-self : goal.returns-then-self
returns-then-self c =
    c.if-self.true ∙ sym (everything_holds c.args.at.now)
    ∙ ap (λ b. is_held (cond b (everything ∷ []) c.self.inside.list.items) c.args.at.now) (sym c.if-self.true)
    ∙ ap (λ is. is_held is c.args.at.now) c.self.view_is

pub returns-else-self : goal.returns-else-self
returns-else-self c =
    c.is_some.ensures ∙ some_copied c.holder.result ∙ ap is_some c.holder.ensures ∙ ap (λ l. is_some (holder l c.args.at.now)) c.deref.ensures.value
    ∙ held_holder c.self.inside.list.items c.args.at.now
    ∙ ap (λ b. is_held (cond b (everything ∷ []) c.self.inside.list.items) c.args.at.now) (sym c.if-self.false)
    ∙ ap (λ is. is_held is c.args.at.now) c.self.view_is
