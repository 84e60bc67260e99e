use Rattle.std.proofs.Common.{◌∷◌, ◌++◌, ap, sym, ◌∙◌}
use Rattle.std.specs.Arc.{arc_value}
use Rattle.shared_map.specs.Shape.{Shape}
use Rattle.shared_map.specs.Tree.{pair, listed}
use Rattle.shared_map.specs.declared.tree.Branch.{Branch}
use Rattle.shared_map.proofs.Halves.{sorted-along}
use Rattle.shared_map.proofs.tree.lean_right.Goals as goal

pub twice_right-requires : goal.twice_right-requires
twice_right-requires g c =
    let e = pair (arc_value c.args.entry) in
    let o = c.deref-outer.result.now in
    let inner = ap (λ (d : Branch g.row.V.Denot). d.left.entries) (sym c.outer.view_is) ∙ ap listed c.in-Fork-root.is ∙ ap (λ (d : Branch g.row.V.Denot). d.left.entries ++ pair (arc_value d.entry) ∷ d.right.entries) (sym c.deref.ensures) in
    let outer = sym (ap (λ (s : Shape g.row.V.Denot). s.entries) c.right.view_is) ∙ ap listed c.in-Fork.is ∙ ap (λ (d : Branch g.row.V.Denot). d.left.entries ++ pair (arc_value d.entry) ∷ d.right.entries) (sym c.deref-outer.ensures) in
    sorted-along _ _ (ap (λ r. c.args.left.entries ++ e ∷ r) (outer ∙ ap (λ l. l ++ pair (arc_value o.entry) ∷ o.right.entries) inner)) c.requires

pub once_right-requires : goal.once_right-requires
once_right-requires g c =
    let e = pair (arc_value c.args.entry) in
    let outer = sym (ap (λ (s : Shape g.row.V.Denot). s.entries) c.right.view_is) ∙ ap listed c.in-Fork.is ∙ ap (λ (d : Branch g.row.V.Denot). d.left.entries ++ pair (arc_value d.entry) ∷ d.right.entries) (sym c.deref-outer.ensures) in
    sorted-along _ _ (ap (λ r. c.args.left.entries ++ e ∷ r) outer) c.requires
