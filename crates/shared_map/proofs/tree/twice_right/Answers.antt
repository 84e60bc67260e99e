use Rattle.std.proofs.Common.{◌∷◌, ◌++◌, ap, sym, ◌∙◌}
use Rattle.std.specs.Arc.{arc_value}
use Rattle.std.proofs.lemmas.Result.{IfOk-weaker}
use Rattle.shared_map.specs.Shape.{Shape}
use Rattle.shared_map.specs.Tree.{pair}
use Rattle.shared_map.proofs.Halves.{low_part, high_part, sorted-along, same_parts, sorted-past, twice_right}
use Rattle.shared_map.proofs.tree.twice_right.Goals as goal

pub joined-requires : goal.joined-requires
joined-requires g c =
    let o = c.args.outer.now in
    let i = c.args.inner.now in
    let e = pair (arc_value c.args.entry) in
    sorted-along _ _ (ap (λ (s : Shape g.row.V.Denot). c.args.left.entries ++ e ∷ s.entries) (sym c.in_ok-copy.ensures))
    (low_part c.args.left.entries e i.left.entries (pair (arc_value i.entry)) i.right.entries
    (low_part c.args.left.entries e (i.left.entries ++ pair (arc_value i.entry) ∷ i.right.entries) (pair (arc_value o.entry)) o.right.entries c.requires))

pub joined-requires-2 : goal.joined-requires-2
joined-requires-2 g c =
    let o = c.args.outer.now in
    let i = c.args.inner.now in
    let e = pair (arc_value c.args.entry) in
    sorted-along _ _ (sym (same_parts _ _ _ _ _ _ (ap (λ (s : Shape g.row.V.Denot). s.entries) c.in_ok-copy-2.ensures) (ap pair c.in_ok-try_clone.ensures) (ap (λ (s : Shape g.row.V.Denot). s.entries) c.in_ok-copy-3.ensures)))
    (high_part i.left.entries (pair (arc_value i.entry)) i.right.entries (pair (arc_value o.entry)) o.right.entries
    (sorted-past c.args.left.entries e ((i.left.entries ++ pair (arc_value i.entry) ∷ i.right.entries) ++ pair (arc_value o.entry) ∷ o.right.entries) c.requires))

pub joined-requires-3 : goal.joined-requires-3
joined-requires-3 g c =
    let o = c.args.outer.now in
    let i = c.args.inner.now in
    let e = pair (arc_value c.args.entry) in
    sorted-along _ _
    (twice_right c.args.left.entries e i.left.entries (pair (arc_value i.entry)) i.right.entries (pair (arc_value o.entry)) o.right.entries
    ∙ sym (same_parts _ _ _ _ _ _
    (ap (λ (s : Shape g.row.V.Denot). s.entries) c.low.view_is ∙ c.in_ok-low.ensures ∙ ap (λ (s : Shape g.row.V.Denot). c.args.left.entries ++ e ∷ s.entries) c.in_ok-copy.ensures)
    (ap pair c.in_ok-try_clone-2.ensures)
    (c.in_ok-high.ensures ∙ same_parts _ _ _ _ _ _ (ap (λ (s : Shape g.row.V.Denot). s.entries) c.in_ok-copy-2.ensures) (ap pair c.in_ok-try_clone.ensures) (ap (λ (s : Shape g.row.V.Denot). s.entries) c.in_ok-copy-3.ensures))))
    c.requires

pub returns : goal.returns
returns g c =
    let o = c.args.outer.now in
    let i = c.args.inner.now in
    let e = pair (arc_value c.args.entry) in
    IfOk-weaker c.joined-4.result _ _
    (λ t is. is ∙ same_parts _ _ _ _ _ _
    (ap (λ (s : Shape g.row.V.Denot). s.entries) c.low.view_is ∙ c.in_ok-low.ensures ∙ ap (λ (s : Shape g.row.V.Denot). c.args.left.entries ++ e ∷ s.entries) c.in_ok-copy.ensures)
    (ap pair c.in_ok-try_clone-2.ensures)
    (c.in_ok-high.ensures ∙ same_parts _ _ _ _ _ _ (ap (λ (s : Shape g.row.V.Denot). s.entries) c.in_ok-copy-2.ensures) (ap pair c.in_ok-try_clone.ensures) (ap (λ (s : Shape g.row.V.Denot). s.entries) c.in_ok-copy-3.ensures))
    ∙ sym (twice_right c.args.left.entries e i.left.entries (pair (arc_value i.entry)) i.right.entries (pair (arc_value o.entry)) o.right.entries))
    c.joined-4.ensures
