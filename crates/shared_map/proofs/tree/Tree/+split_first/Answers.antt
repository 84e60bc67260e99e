use Rattle.std.proofs.Common.{◌≡◌, [], ◌∷◌, ◌++◌, ap, sym, subst, ◌∙◌}
use Rattle.std.specs.Arc.{arc_value}
use Rattle.shared_map.specs.Shape.{Shape}
use Rattle.shared_map.specs.Tree.{pair, listed, IsSplit}
use Rattle.shared_map.specs.declared.tree.Branch.{Branch}
use Rattle.shared_map.proofs.Halves.{sorted-along, sorted-tail}
use Rattle.shared_map.proofs.tree.Tree.+split_first.Goals as goal

pub with_left-requires : goal.with_left-requires
with_left-requires g t c =
    let b = c.deref-b.result.now in
    let e = pair (arc_value b.entry) in
    let whole = ap listed c.in-Fork.is ∙ ap (λ (d : Branch g.row.V.Denot). d.left.entries ++ pair (arc_value d.entry) ∷ d.right.entries) (sym c.deref-b.ensures) in
    let rest : b.left.entries ≡ pair (arc_value c.in-Some.first) ∷ c.in-Some.left.entries = subst (IsSplit b.left.entries) c.in-Some.is c.in_ok-split_first-in-Fork.ensures in
    let first = pair (arc_value c.in-Some.first) in
    sorted-tail first (c.in-Some.left.entries ++ e ∷ b.right.entries) (sorted-along _ _ (whole ∙ ap (λ l. l ++ e ∷ b.right.entries) rest) c.self.invariant.rises)

pub returns-in_ok-with_left-in-Some : goal.returns-in_ok-with_left-in-Some
returns-in_ok-with_left-in-Some g t c =
    let b = c.deref-b.result.now in
    let e = pair (arc_value b.entry) in
    let whole = ap listed c.in-Fork.is ∙ ap (λ (d : Branch g.row.V.Denot). d.left.entries ++ pair (arc_value d.entry) ∷ d.right.entries) (sym c.deref-b.ensures) in
    let rest : b.left.entries ≡ pair (arc_value c.in-Some.first) ∷ c.in-Some.left.entries = subst (IsSplit b.left.entries) c.in-Some.is c.in_ok-split_first-in-Fork.ensures in
    let first = pair (arc_value c.in-Some.first) in
    sym (ap (λ (s : Shape g.row.V.Denot). s.entries) c.self.view_is) ∙ whole ∙ ap (λ l. l ++ e ∷ b.right.entries) rest ∙ ap (λ l. first ∷ l) (sym c.in_ok-with_left-in-Some.ensures)

pub returns-in_ok-copy-in-None : goal.returns-in_ok-copy-in-None
returns-in_ok-copy-in-None g t c =
    let b = c.deref-b.result.now in
    let e = pair (arc_value b.entry) in
    let whole = ap listed c.in-Fork.is ∙ ap (λ (d : Branch g.row.V.Denot). d.left.entries ++ pair (arc_value d.entry) ∷ d.right.entries) (sym c.deref-b.ensures) in
    let rest : b.left.entries ≡ [] = subst (IsSplit b.left.entries) c.in-None.is c.in_ok-split_first-in-Fork.ensures in
    sym (ap (λ (s : Shape g.row.V.Denot). s.entries) c.self.view_is) ∙ whole ∙ ap (λ l. l ++ e ∷ b.right.entries) rest
    ∙ ap (λ d. d ∷ b.right.entries) (sym (ap pair c.in_ok-try_clone-in-None.ensures))
    ∙ ap (λ (s : Shape g.row.V.Denot). pair (arc_value c.in_ok-try_clone-in-None.field-0) ∷ s.entries) (sym c.in_ok-copy-in-None.ensures)
