use Rattle.std.proofs.Common.{◌≡◌, refl, ap, sym, ◌∙◌}
use Rattle.object_store.specs.Object.{nothing}
use Rattle.object_store.specs.Shared.{content_behind}
use Rattle.object_store.proofs.object.Object.is_nothing.Goals as goal

pub returns-in-Some : goal.returns-in-Some
returns-in-Some c =
    let held : c.deref.result.now ≡ c.args.self.now = c.deref.ensures ∙ ap content_behind (sym c.in-Some.is) ∙ c.self.view_is in
    (λ t. sym (c.is_nothing.ensures.0 t) ∙ held, λ e. c.is_nothing.ensures.1 (held ∙ sym e))

pub returns-in-None : goal.returns-in-None
returns-in-None c =
    let empty : nothing ≡ c.args.self.now = ap content_behind (sym c.in-None.is) ∙ c.self.view_is in
    (λ t. empty, λ e. refl)
