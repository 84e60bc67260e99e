use Rattle.std.proofs.Common.{◌≡◌, ap, sym, subst, ◌∙◌}
use Rattle.object_store.specs.Object.{IsContent, nothing}
use Rattle.object_store.specs.Shared.{content_behind}
use Rattle.object_store.proofs.Within.{nothing_within}
use Rattle.object_store.proofs.object.Object.within.Goals as goal

pub returns-in-None : goal.returns-in-None
returns-in-None c =
    let empty : nothing ≡ c.args.self.now = ap content_behind (sym c.in-None.is) ∙ c.self.view_is in
    subst IsContent empty nothing_within
