use Rattle.std.proofs.Common.{◌≡◌, Some, ◌∷◌, ◌++◌, ap, sym, ◌∙◌}
use Rattle.std.specs.Arc.{arc_value}
use Rattle.std.specs.Ordering.{nat_cmp}
use Rattle.std.specs.Cmp.Lexicographic.{slice_cmp}
use Rattle.std.specs.declared.cmp.Ordering.TheVariants.{Less, Equal, Greater}
use Rattle.std.specs.FinMap.{find}
use Rattle.shared_map.specs.Shape.{Shape}
use Rattle.shared_map.specs.Tree.{pair, listed}
use Rattle.shared_map.specs.declared.tree.Branch.{Branch}
use Rattle.shared_map.specs.declared.tree.Entry.{Entry}
use Rattle.shared_map.proofs.Halves.{find-less, find-equal, find-greater, sorted-along}
use Rattle.shared_map.proofs.tree.Tree.+get.Goals as goal

pub returns-in-Less : goal.returns-in-Less
returns-in-Less g t c =
    let b = c.deref-b.result.now in
    let e = pair (arc_value b.entry) in
    let k = c.args.key.now in
    let whole = ap listed c.in-Fork.is ∙ ap (λ (d : Branch g.row.V.Denot). d.left.entries ++ pair (arc_value d.entry) ∷ d.right.entries) (sym c.deref-b.ensures) in
    let h = sorted-along _ (b.left.entries ++ e ∷ b.right.entries) whole c.self.invariant.rises in
    let there = c.as_slice.ensures.value ∙ ap (λ (x : Entry g.row.V.Denot). x.key.items) c.deref-entry.ensures in
    let o : slice_cmp nat_cmp k e.0 ≡ Less = sym (ap (slice_cmp nat_cmp k) there) ∙ sym c.cmp.ensures ∙ c.in-Less.is in
    c.get.ensures ∙ sym (ap (find (slice_cmp nat_cmp) k) (sym (ap (λ (s : Shape g.row.V.Denot). s.entries) c.self.view_is) ∙ whole) ∙ find-less k b.left.entries e b.right.entries h o)

pub returns-in-Equal : goal.returns-in-Equal
returns-in-Equal g t c =
    let b = c.deref-b.result.now in
    let e = pair (arc_value b.entry) in
    let k = c.args.key.now in
    let whole = ap listed c.in-Fork.is ∙ ap (λ (d : Branch g.row.V.Denot). d.left.entries ++ pair (arc_value d.entry) ∷ d.right.entries) (sym c.deref-b.ensures) in
    let h = sorted-along _ (b.left.entries ++ e ∷ b.right.entries) whole c.self.invariant.rises in
    let there = c.as_slice.ensures.value ∙ ap (λ (x : Entry g.row.V.Denot). x.key.items) c.deref-entry.ensures in
    let o : slice_cmp nat_cmp k e.0 ≡ Equal = sym (ap (slice_cmp nat_cmp k) there) ∙ sym c.cmp.ensures ∙ c.in-Equal.is in
    ap (λ (x : Entry g.row.V.Denot). Some x.value) c.deref-entry.ensures ∙ sym (ap (find (slice_cmp nat_cmp) k) (sym (ap (λ (s : Shape g.row.V.Denot). s.entries) c.self.view_is) ∙ whole) ∙ find-equal k b.left.entries e b.right.entries h o)

pub returns-in-Greater : goal.returns-in-Greater
returns-in-Greater g t c =
    let b = c.deref-b.result.now in
    let e = pair (arc_value b.entry) in
    let k = c.args.key.now in
    let whole = ap listed c.in-Fork.is ∙ ap (λ (d : Branch g.row.V.Denot). d.left.entries ++ pair (arc_value d.entry) ∷ d.right.entries) (sym c.deref-b.ensures) in
    let h = sorted-along _ (b.left.entries ++ e ∷ b.right.entries) whole c.self.invariant.rises in
    let there = c.as_slice.ensures.value ∙ ap (λ (x : Entry g.row.V.Denot). x.key.items) c.deref-entry.ensures in
    let o : slice_cmp nat_cmp k e.0 ≡ Greater = sym (ap (slice_cmp nat_cmp k) there) ∙ sym c.cmp.ensures ∙ c.in-Greater.is in
    c.get-in-Greater.ensures ∙ sym (ap (find (slice_cmp nat_cmp) k) (sym (ap (λ (s : Shape g.row.V.Denot). s.entries) c.self.view_is) ∙ whole) ∙ find-greater k b.left.entries e b.right.entries h o)
