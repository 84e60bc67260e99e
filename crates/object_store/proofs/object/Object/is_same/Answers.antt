use Rattle.std.proofs.Common.{◌≡◌, ap, sym, ◌∙◌}
use Rattle.object_store.specs.Object.{nothing}
use Rattle.object_store.specs.Shared.{content_behind}
use Rattle.object_store.proofs.object.Object.is_same.Goals as goal

pub returns-in-Some : goal.returns-in-Some
returns-in-Some c =
    let held : c.deref.result.now ≡ c.args.self.now = c.deref.ensures ∙ ap content_behind (sym c.in-Some.is) ∙ c.self.view_is in
    (λ t. sym held ∙ c.held_is.ensures.0 t, λ e. c.held_is.ensures.1 (held ∙ e))

pub returns-in-None : goal.returns-in-None
returns-in-None c =
    let empty : nothing ≡ c.args.self.now = ap content_behind (sym c.in-None.is) ∙ c.self.view_is in
    (λ t. sym empty ∙ c.is_nothing.ensures.0 t, λ e. c.is_nothing.ensures.1 (empty ∙ e))
