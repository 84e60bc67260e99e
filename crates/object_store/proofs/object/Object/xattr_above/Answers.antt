use Rattle.std.proofs.Common.{◌≡◌, ap, sym, ◌∙◌}
use Rattle.shared_map.specs.Entries.{key_above}
use Rattle.object_store.specs.Object.{Content, nothing}
use Rattle.object_store.specs.Shared.{content_behind}
use Rattle.object_store.proofs.Nothing.{no_xattr_above}
use Rattle.object_store.proofs.object.Object.xattr_above.Goals as goal

pub returns-in-None : goal.returns-in-None
returns-in-None c =
    let empty : nothing ≡ c.args.self.now = ap content_behind (sym c.in-None.is) ∙ c.self.view_is in
    no_xattr_above c.args.name.now ∙ ap (λ (o : Content). key_above o.xattrs c.args.name.now) empty
