use Rattle.std.proofs.Common.{ap, ◌∙◌}
use Rattle.std.specs.Ordering.{nat_cmp}
use Rattle.std.specs.Cmp.Lexicographic.{slice_cmp}
use Rattle.std.specs.FinMap.{put}
use Rattle.std.proofs.lemmas.Result.{IfOk-weaker}
use Rattle.shared_map.specs.declared.tree.Entry.{Entry}
use Rattle.shared_map.proofs.tree.Tree.set_at.Goals as goal

pub returns : goal.returns
returns g c =
    let es = c.args.self.now.entries in
    IfOk-weaker c.set.result _ _
    (λ t is. is
    ∙ ap (λ (x : Entry g.row.V.Denot). put (slice_cmp nat_cmp) x.key.items x.value es) c.in_ok-new.ensures.ok
    ∙ ap (λ q. put (slice_cmp nat_cmp) q c.args.value es) c.in_ok-key.ensures.items)
    c.set.ensures
