use Rattle.std.proofs.Common.{◌∷◌, ◌++◌, ap, sym, ◌∙◌}
use Rattle.std.specs.Arc.{arc_value}
use Rattle.std.proofs.lemmas.Result.{IfOk-weaker}
use Rattle.shared_map.specs.Shape.{Shape}
use Rattle.shared_map.specs.Tree.{pair}
use Rattle.shared_map.proofs.Halves.{low_part, high_part, sorted-along, same_parts, sorted-left, twice_left}
use Rattle.shared_map.proofs.tree.twice_left.Goals as goal

pub joined-requires : goal.joined-requires
joined-requires g c =
    let o = c.args.outer.now in
    let i = c.args.inner.now in
    let e = pair (arc_value c.args.entry) in
    sorted-along _ _ (ap (λ (s : Shape g.row.V.Denot). s.entries ++ e ∷ c.args.right.entries) (sym c.in_ok-copy.ensures))
    (high_part i.left.entries (pair (arc_value i.entry)) i.right.entries e c.args.right.entries
    (high_part o.left.entries (pair (arc_value o.entry)) (i.left.entries ++ pair (arc_value i.entry) ∷ i.right.entries) e c.args.right.entries c.requires))

pub joined-requires-2 : goal.joined-requires-2
joined-requires-2 g c =
    let o = c.args.outer.now in
    let i = c.args.inner.now in
    let e = pair (arc_value c.args.entry) in
    sorted-along _ _ (sym (same_parts _ _ _ _ _ _ (ap (λ (s : Shape g.row.V.Denot). s.entries) c.in_ok-copy-2.ensures) (ap pair c.in_ok-try_clone.ensures) (ap (λ (s : Shape g.row.V.Denot). s.entries) c.in_ok-copy-3.ensures)))
    (low_part o.left.entries (pair (arc_value o.entry)) i.left.entries (pair (arc_value i.entry)) i.right.entries
    (sorted-left (o.left.entries ++ pair (arc_value o.entry) ∷ (i.left.entries ++ pair (arc_value i.entry) ∷ i.right.entries)) (e ∷ c.args.right.entries) c.requires))

pub joined-requires-3 : goal.joined-requires-3
joined-requires-3 g c =
    let o = c.args.outer.now in
    let i = c.args.inner.now in
    let e = pair (arc_value c.args.entry) in
    sorted-along _ _
    (twice_left o.left.entries (pair (arc_value o.entry)) i.left.entries (pair (arc_value i.entry)) i.right.entries e c.args.right.entries
    ∙ sym (same_parts _ _ _ _ _ _
    (c.in_ok-low.ensures ∙ same_parts _ _ _ _ _ _ (ap (λ (s : Shape g.row.V.Denot). s.entries) c.in_ok-copy-2.ensures) (ap pair c.in_ok-try_clone.ensures) (ap (λ (s : Shape g.row.V.Denot). s.entries) c.in_ok-copy-3.ensures))
    (ap pair c.in_ok-try_clone-2.ensures)
    (c.in_ok-high.ensures ∙ ap (λ (s : Shape g.row.V.Denot). s.entries ++ e ∷ c.args.right.entries) c.in_ok-copy.ensures)))
    c.requires

pub returns : goal.returns
returns g c =
    let o = c.args.outer.now in
    let i = c.args.inner.now in
    let e = pair (arc_value c.args.entry) in
    IfOk-weaker c.joined-4.result _ _
    (λ t is. is ∙ same_parts _ _ _ _ _ _
    (c.in_ok-low.ensures ∙ same_parts _ _ _ _ _ _ (ap (λ (s : Shape g.row.V.Denot). s.entries) c.in_ok-copy-2.ensures) (ap pair c.in_ok-try_clone.ensures) (ap (λ (s : Shape g.row.V.Denot). s.entries) c.in_ok-copy-3.ensures))
    (ap pair c.in_ok-try_clone-2.ensures)
    (c.in_ok-high.ensures ∙ ap (λ (s : Shape g.row.V.Denot). s.entries ++ e ∷ c.args.right.entries) c.in_ok-copy.ensures)
    ∙ sym (twice_left o.left.entries (pair (arc_value o.entry)) i.left.entries (pair (arc_value i.entry)) i.right.entries e c.args.right.entries))
    c.joined-4.ensures
