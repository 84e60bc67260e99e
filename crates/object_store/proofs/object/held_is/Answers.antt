use Rattle.std.proofs.Common.{◌≡◌, ap, sym, ◌∙◌}
use Rattle.object_store.specs.Object.{nothing}
use Rattle.object_store.specs.Shared.{content_behind}
use Rattle.object_store.proofs.object.held_is.Goals as goal

pub returns-in-Some : goal.returns-in-Some
returns-in-Some c =
    let held : c.deref.result.now ≡ c.args.object.now = c.deref.ensures ∙ ap content_behind (sym c.in-Some.is) ∙ c.object.view_is in
    (λ t. c.is_same.ensures.0 t ∙ held, λ e. c.is_same.ensures.1 (e ∙ sym held))

pub returns-in-None : goal.returns-in-None
returns-in-None c =
    let empty : nothing ≡ c.args.object.now = ap content_behind (sym c.in-None.is) ∙ c.object.view_is in
    (λ t. c.is_nothing.ensures.0 t ∙ empty, λ e. c.is_nothing.ensures.1 (e ∙ sym empty))
