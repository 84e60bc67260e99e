use Rattle.std.proofs.Common.{◌∷◌, ◌++◌, ap, sym, ◌∙◌}
use Rattle.std.specs.Arc.{arc_value}
use Rattle.std.proofs.lemmas.Result.{IfOk-weaker}
use Rattle.shared_map.specs.Shape.{Shape}
use Rattle.shared_map.specs.Tree.{pair}
use Rattle.shared_map.proofs.Halves.{low_part, sorted-along, same_parts, turned}
use Rattle.shared_map.proofs.tree.once_right.Goals as goal

pub joined-requires : goal.joined-requires
joined-requires g c =
    let o = c.args.outer.now in
    sorted-along _ _ (ap (λ (s : Shape g.row.V.Denot). c.args.left.entries ++ pair (arc_value c.args.entry) ∷ s.entries) (sym c.in_ok-copy.ensures))
    (low_part c.args.left.entries (pair (arc_value c.args.entry)) o.left.entries (pair (arc_value o.entry)) o.right.entries c.requires)

pub joined-requires-2 : goal.joined-requires-2
joined-requires-2 g c =
    let o = c.args.outer.now in
    sorted-along _ _
    (sym (turned c.args.left.entries (pair (arc_value c.args.entry)) o.left.entries (pair (arc_value o.entry)) o.right.entries)
    ∙ sym (same_parts _ _ _ _ _ _ (c.in_ok-low.ensures ∙ ap (λ (s : Shape g.row.V.Denot). c.args.left.entries ++ pair (arc_value c.args.entry) ∷ s.entries) c.in_ok-copy.ensures)
    (ap pair c.in_ok-try_clone.ensures) (ap (λ (s : Shape g.row.V.Denot). s.entries) c.in_ok-copy-2.ensures)))
    c.requires

pub returns : goal.returns
returns g c =
    let o = c.args.outer.now in
    IfOk-weaker c.joined-3.result _ _
    (λ t is. is ∙ same_parts _ _ _ _ _ _ (c.in_ok-low.ensures ∙ ap (λ (s : Shape g.row.V.Denot). c.args.left.entries ++ pair (arc_value c.args.entry) ∷ s.entries) c.in_ok-copy.ensures)
    (ap pair c.in_ok-try_clone.ensures) (ap (λ (s : Shape g.row.V.Denot). s.entries) c.in_ok-copy-2.ensures)
    ∙ turned c.args.left.entries (pair (arc_value c.args.entry)) o.left.entries (pair (arc_value o.entry)) o.right.entries)
    c.joined-3.ensures
