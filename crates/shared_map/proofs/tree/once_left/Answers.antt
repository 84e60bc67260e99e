use Rattle.std.proofs.Common.{◌∷◌, ◌++◌, ap, sym, ◌∙◌}
use Rattle.std.specs.Arc.{arc_value}
use Rattle.std.proofs.lemmas.Result.{IfOk-weaker}
use Rattle.shared_map.specs.Shape.{Shape}
use Rattle.shared_map.specs.Tree.{pair}
use Rattle.shared_map.proofs.Halves.{high_part, sorted-along, same_parts, turned}
use Rattle.shared_map.proofs.tree.once_left.Goals as goal

pub joined-requires : goal.joined-requires
joined-requires g c =
    let o = c.args.outer.now in
    sorted-along _ _ (ap (λ (s : Shape g.row.V.Denot). s.entries ++ pair (arc_value c.args.entry) ∷ c.args.right.entries) (sym c.in_ok-copy.ensures))
    (high_part o.left.entries (pair (arc_value o.entry)) o.right.entries (pair (arc_value c.args.entry)) c.args.right.entries c.requires)

pub joined-requires-2 : goal.joined-requires-2
joined-requires-2 g c =
    let o = c.args.outer.now in
    sorted-along _ _
    (turned o.left.entries (pair (arc_value o.entry)) o.right.entries (pair (arc_value c.args.entry)) c.args.right.entries
    ∙ sym (same_parts _ _ _ _ _ _ (ap (λ (s : Shape g.row.V.Denot). s.entries) c.in_ok-copy-2.ensures) (ap pair c.in_ok-try_clone.ensures)
    (c.in_ok-high.ensures ∙ ap (λ (s : Shape g.row.V.Denot). s.entries ++ pair (arc_value c.args.entry) ∷ c.args.right.entries) c.in_ok-copy.ensures)))
    c.requires

pub returns : goal.returns
returns g c =
    let o = c.args.outer.now in
    IfOk-weaker c.joined-3.result _ _
    (λ t is. is ∙ same_parts _ _ _ _ _ _ (ap (λ (s : Shape g.row.V.Denot). s.entries) c.in_ok-copy-2.ensures) (ap pair c.in_ok-try_clone.ensures)
    (c.in_ok-high.ensures ∙ ap (λ (s : Shape g.row.V.Denot). s.entries ++ pair (arc_value c.args.entry) ∷ c.args.right.entries) c.in_ok-copy.ensures)
    ∙ sym (turned o.left.entries (pair (arc_value o.entry)) o.right.entries (pair (arc_value c.args.entry)) c.args.right.entries))
    c.joined-3.ensures
