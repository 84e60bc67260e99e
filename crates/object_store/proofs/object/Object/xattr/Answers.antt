use Rattle.std.proofs.Common.{◌≡◌, ap, sym, ◌∙◌}
use Rattle.std.specs.Cmp.Lexicographic.{slice_cmp}
use Rattle.std.specs.Ordering.{nat_cmp}
use Rattle.std.specs.FinMap as fin
use Rattle.object_store.specs.Object.{Content, nothing}
use Rattle.object_store.specs.Shared.{content_behind}
use Rattle.object_store.proofs.object.Object.xattr.Goals as goal

pub returns-in-None : goal.returns-in-None
returns-in-None c =
    let empty : nothing ≡ c.args.self.now = ap content_behind (sym c.in-None.is) ∙ c.self.view_is in
    sym (fin.get-empty (slice_cmp nat_cmp) c.args.name.now) ∙ ap (λ (o : Content). fin.get o.xattrs c.args.name.now) empty
