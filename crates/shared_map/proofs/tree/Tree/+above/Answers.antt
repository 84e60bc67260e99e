use Rattle.std.proofs.Common.{◌≡◌, Some, None, ◌∷◌, ◌++◌, ap, sym, ◌∙◌}
use Rattle.std.specs.Arc.{arc_value}
use Rattle.std.specs.Ordering.{nat_cmp}
use Rattle.std.specs.Cmp.Lexicographic.{slice_cmp}
use Rattle.std.specs.declared.cmp.Ordering.TheVariants.{Less}
use Rattle.std.specs.Option.{option_copied}
use Rattle.shared_map.specs.Entries.{least_above}
use Rattle.shared_map.specs.Shape.{Shape}
use Rattle.shared_map.specs.Tree.{pair, listed}
use Rattle.shared_map.specs.declared.tree.Branch.{Branch}
use Rattle.shared_map.specs.declared.tree.Entry.{Entry}
use Rattle.shared_map.proofs.Halves.{or_else, above-less, above-not_less, sorted-along}
use Rattle.shared_map.proofs.tree.Tree.+above.Goals as goal

pub returns-in-Some : goal.returns-in-Some
returns-in-Some g t c =
    let b = c.deref-b.result.now in
    let e = pair (arc_value b.entry) in
    let k = c.args.key.now in
    let whole = ap listed c.in-Fork.is ∙ ap (λ (d : Branch g.row.V.Denot). d.left.entries ++ pair (arc_value d.entry) ∷ d.right.entries) (sym c.deref-b.ensures) in
    let there = c.as_slice.ensures.value ∙ ap (λ (x : Entry g.row.V.Denot). x.key.items) c.deref-entry.ensures in
    let o : slice_cmp nat_cmp k e.0 ≡ Less = sym (ap (slice_cmp nat_cmp k) there) ∙ sym c.cmp.ensures ∙ c.in-Less.is in
    let f : least_above k b.left.entries ≡ Some c.in-Some.found.now = sym c.above.ensures ∙ ap option_copied c.in-Some.is in
    sym (ap (least_above k) (sym (ap (λ (s : Shape g.row.V.Denot). s.entries) c.self.view_is) ∙ whole) ∙ above-less k b.left.entries e b.right.entries o ∙ ap (λ w. or_else w (Some e.0)) f)

pub returns-in-None : goal.returns-in-None
returns-in-None g t c =
    let b = c.deref-b.result.now in
    let e = pair (arc_value b.entry) in
    let k = c.args.key.now in
    let whole = ap listed c.in-Fork.is ∙ ap (λ (d : Branch g.row.V.Denot). d.left.entries ++ pair (arc_value d.entry) ∷ d.right.entries) (sym c.deref-b.ensures) in
    let there = c.as_slice.ensures.value ∙ ap (λ (x : Entry g.row.V.Denot). x.key.items) c.deref-entry.ensures in
    let o : slice_cmp nat_cmp k e.0 ≡ Less = sym (ap (slice_cmp nat_cmp k) there) ∙ sym c.cmp.ensures ∙ c.in-Less.is in
    let f : least_above k b.left.entries ≡ None = sym c.above.ensures ∙ ap option_copied c.in-None.is in
    ap (λ q. Some q) (c.as_slice-in-None.ensures.value ∙ ap (λ (x : Entry g.row.V.Denot). x.key.items) c.deref-entry.ensures)
    ∙ sym (ap (least_above k) (sym (ap (λ (s : Shape g.row.V.Denot). s.entries) c.self.view_is) ∙ whole) ∙ above-less k b.left.entries e b.right.entries o ∙ ap (λ w. or_else w (Some e.0)) f)

pub returns-in_default : goal.returns-in_default
returns-in_default g t c =
    let b = c.deref-b.result.now in
    let e = pair (arc_value b.entry) in
    let k = c.args.key.now in
    let whole = ap listed c.in-Fork.is ∙ ap (λ (d : Branch g.row.V.Denot). d.left.entries ++ pair (arc_value d.entry) ∷ d.right.entries) (sym c.deref-b.ensures) in
    let h = sorted-along _ (b.left.entries ++ e ∷ b.right.entries) whole c.self.invariant.rises in
    let there = c.as_slice.ensures.value ∙ ap (λ (x : Entry g.row.V.Denot). x.key.items) c.deref-entry.ensures in
    let o : slice_cmp nat_cmp k e.0 ≡ c.cmp.result = sym (ap (slice_cmp nat_cmp k) there) ∙ sym c.cmp.ensures in
    c.above-in_default.ensures
    ∙ sym (ap (least_above k) (sym (ap (λ (s : Shape g.row.V.Denot). s.entries) c.self.view_is) ∙ whole) ∙ above-not_less k b.left.entries e b.right.entries h (λ l. c.in_default.not-Less (sym o ∙ l)))
