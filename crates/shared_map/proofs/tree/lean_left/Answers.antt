use Rattle.std.proofs.Common.{◌∷◌, ◌++◌, ap, sym, ◌∙◌}
use Rattle.std.specs.Arc.{arc_value}
use Rattle.shared_map.specs.Shape.{Shape}
use Rattle.shared_map.specs.Tree.{pair, listed}
use Rattle.shared_map.specs.declared.tree.Branch.{Branch}
use Rattle.shared_map.proofs.Halves.{sorted-along}
use Rattle.shared_map.proofs.tree.lean_left.Goals as goal

pub twice_left-requires : goal.twice_left-requires
twice_left-requires g c =
    let e = pair (arc_value c.args.entry) in
    let o = c.deref-outer.result.now in
    let inner = ap (λ (d : Branch g.row.V.Denot). d.right.entries) (sym c.outer.view_is) ∙ ap listed c.in-Fork-root.is ∙ ap (λ (d : Branch g.row.V.Denot). d.left.entries ++ pair (arc_value d.entry) ∷ d.right.entries) (sym c.deref.ensures) in
    let outer = sym (ap (λ (s : Shape g.row.V.Denot). s.entries) c.left.view_is) ∙ ap listed c.in-Fork.is ∙ ap (λ (d : Branch g.row.V.Denot). d.left.entries ++ pair (arc_value d.entry) ∷ d.right.entries) (sym c.deref-outer.ensures) in
    sorted-along _ _ (ap (λ l. l ++ e ∷ c.args.right.entries) (outer ∙ ap (λ r. o.left.entries ++ pair (arc_value o.entry) ∷ r) inner)) c.requires

pub once_left-requires : goal.once_left-requires
once_left-requires g c =
    let e = pair (arc_value c.args.entry) in
    let outer = sym (ap (λ (s : Shape g.row.V.Denot). s.entries) c.left.view_is) ∙ ap listed c.in-Fork.is ∙ ap (λ (d : Branch g.row.V.Denot). d.left.entries ++ pair (arc_value d.entry) ∷ d.right.entries) (sym c.deref-outer.ensures) in
    sorted-along _ _ (ap (λ l. l ++ e ∷ c.args.right.entries) outer) c.requires
