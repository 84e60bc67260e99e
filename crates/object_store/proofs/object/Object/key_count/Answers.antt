use Rattle.std.proofs.Common.{◌≡◌, ℕ, List, ap, sym, ◌∙◌}
use Rattle.std.specs.Cmp.Lexicographic.{slice_cmp}
use Rattle.std.specs.Ordering.{nat_cmp}
use Rattle.std.specs.FinMap as fin
use Rattle.object_store.specs.Object.{Content, nothing}
use Rattle.object_store.specs.Shared.{content_behind}
use Rattle.object_store.proofs.object.Object.key_count.Goals as goal

pub returns-in-None-clause-value : goal.returns-in-None-clause-value
returns-in-None-clause-value c =
    let empty : nothing ≡ c.args.self.now = ap content_behind (sym c.in-None.is) ∙ c.self.view_is in
    sym (fin.len-empty (slice_cmp nat_cmp) (List ℕ)) ∙ ap (λ (c : Content). fin.len c.omap) empty
