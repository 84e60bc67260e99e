use Rattle.std.proofs.Common.{◌≡◌, ap, sym, ◌∙◌}
use Rattle.shared_map.specs.Entries.{key_above}
use Rattle.object_store.specs.Object.{Content, nothing}
use Rattle.object_store.specs.Shared.{content_behind}
use Rattle.object_store.proofs.Nothing.{no_key_above}
use Rattle.object_store.proofs.object.Object.key_above.Goals as goal

pub returns-in-None : goal.returns-in-None
returns-in-None c =
    let empty : nothing ≡ c.args.self.now = ap content_behind (sym c.in-None.is) ∙ c.self.view_is in
    no_key_above c.args.key.now ∙ ap (λ (o : Content). key_above o.omap c.args.key.now) empty
