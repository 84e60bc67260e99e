use Rattle.std.proofs.Common.{◌≡◌, ◌∷◌, ◌++◌, ap, sym, ◌∙◌}
use Rattle.std.specs.Arc.{arc_value}
use Rattle.std.specs.Ordering.{nat_cmp}
use Rattle.std.specs.Cmp.Lexicographic.{slice_cmp}
use Rattle.std.specs.declared.cmp.Ordering.TheVariants.{Less, Equal, Greater}
use Rattle.std.proofs.lemmas.Result.{IfOk-weaker}
use Rattle.shared_map.specs.Entries.{without}
use Rattle.shared_map.specs.Shape.{Shape}
use Rattle.shared_map.specs.Tree.{pair, listed}
use Rattle.shared_map.specs.declared.tree.Branch.{Branch}
use Rattle.shared_map.specs.declared.tree.Entry.{Entry}
use Rattle.shared_map.proofs.Halves.{without-less, without-equal, without-greater, sorted-without, sorted-along}
use Rattle.shared_map.proofs.tree.Tree.+remove.Goals as goal

pub with_left-requires : goal.with_left-requires
with_left-requires g t c =
    let b = c.deref-b.result.now in
    let e = pair (arc_value b.entry) in
    let k = c.args.key.now in
    let whole = ap listed c.in-Fork.is ∙ ap (λ (d : Branch g.row.V.Denot). d.left.entries ++ pair (arc_value d.entry) ∷ d.right.entries) (sym c.deref-b.ensures) in
    let h = sorted-along _ (b.left.entries ++ e ∷ b.right.entries) whole c.self.invariant.rises in
    let there = c.as_slice.ensures.value ∙ ap (λ (x : Entry g.row.V.Denot). x.key.items) c.deref-entry.ensures in
    let o : slice_cmp nat_cmp k e.0 ≡ Less = sym (ap (slice_cmp nat_cmp k) there) ∙ sym c.cmp.ensures ∙ c.in-Less.is in
    sorted-along _ _ (without-less k b.left.entries e b.right.entries h o ∙ sym (ap (λ l. l ++ e ∷ b.right.entries) c.in_ok-remove-in-Less.ensures)) (sorted-without k (b.left.entries ++ e ∷ b.right.entries) h)

pub returns-in_ok-remove-in-Less : goal.returns-in_ok-remove-in-Less
returns-in_ok-remove-in-Less g t c =
    let b = c.deref-b.result.now in
    let e = pair (arc_value b.entry) in
    let k = c.args.key.now in
    let whole = ap listed c.in-Fork.is ∙ ap (λ (d : Branch g.row.V.Denot). d.left.entries ++ pair (arc_value d.entry) ∷ d.right.entries) (sym c.deref-b.ensures) in
    let h = sorted-along _ (b.left.entries ++ e ∷ b.right.entries) whole c.self.invariant.rises in
    let there = c.as_slice.ensures.value ∙ ap (λ (x : Entry g.row.V.Denot). x.key.items) c.deref-entry.ensures in
    let o : slice_cmp nat_cmp k e.0 ≡ Less = sym (ap (slice_cmp nat_cmp k) there) ∙ sym c.cmp.ensures ∙ c.in-Less.is in
    IfOk-weaker c.with_left.result _ _
    (λ t' is. is ∙ ap (λ l. l ++ e ∷ b.right.entries) c.in_ok-remove-in-Less.ensures ∙ sym (without-less k b.left.entries e b.right.entries h o) ∙ sym (ap (without k) (sym (ap (λ (s : Shape g.row.V.Denot). s.entries) c.self.view_is) ∙ whole)))
    c.with_left.ensures

pub with_right-requires : goal.with_right-requires
with_right-requires g t c =
    let b = c.deref-b.result.now in
    let e = pair (arc_value b.entry) in
    let k = c.args.key.now in
    let whole = ap listed c.in-Fork.is ∙ ap (λ (d : Branch g.row.V.Denot). d.left.entries ++ pair (arc_value d.entry) ∷ d.right.entries) (sym c.deref-b.ensures) in
    let h = sorted-along _ (b.left.entries ++ e ∷ b.right.entries) whole c.self.invariant.rises in
    let there = c.as_slice.ensures.value ∙ ap (λ (x : Entry g.row.V.Denot). x.key.items) c.deref-entry.ensures in
    let o : slice_cmp nat_cmp k e.0 ≡ Greater = sym (ap (slice_cmp nat_cmp k) there) ∙ sym c.cmp.ensures ∙ c.in-Greater.is in
    sorted-along _ _ (without-greater k b.left.entries e b.right.entries h o ∙ sym (ap (λ r. b.left.entries ++ e ∷ r) c.in_ok-remove-in-Greater.ensures)) (sorted-without k (b.left.entries ++ e ∷ b.right.entries) h)

pub returns-in_ok-remove-in-Greater : goal.returns-in_ok-remove-in-Greater
returns-in_ok-remove-in-Greater g t c =
    let b = c.deref-b.result.now in
    let e = pair (arc_value b.entry) in
    let k = c.args.key.now in
    let whole = ap listed c.in-Fork.is ∙ ap (λ (d : Branch g.row.V.Denot). d.left.entries ++ pair (arc_value d.entry) ∷ d.right.entries) (sym c.deref-b.ensures) in
    let h = sorted-along _ (b.left.entries ++ e ∷ b.right.entries) whole c.self.invariant.rises in
    let there = c.as_slice.ensures.value ∙ ap (λ (x : Entry g.row.V.Denot). x.key.items) c.deref-entry.ensures in
    let o : slice_cmp nat_cmp k e.0 ≡ Greater = sym (ap (slice_cmp nat_cmp k) there) ∙ sym c.cmp.ensures ∙ c.in-Greater.is in
    IfOk-weaker c.with_right.result _ _
    (λ t' is. is ∙ ap (λ r. b.left.entries ++ e ∷ r) c.in_ok-remove-in-Greater.ensures ∙ sym (without-greater k b.left.entries e b.right.entries h o) ∙ sym (ap (without k) (sym (ap (λ (s : Shape g.row.V.Denot). s.entries) c.self.view_is) ∙ whole)))
    c.with_right.ensures

pub without_entry-requires : goal.without_entry-requires
without_entry-requires g t c =
    let b = c.deref-b.result.now in
    let e = pair (arc_value b.entry) in
    let k = c.args.key.now in
    let whole = ap listed c.in-Fork.is ∙ ap (λ (d : Branch g.row.V.Denot). d.left.entries ++ pair (arc_value d.entry) ∷ d.right.entries) (sym c.deref-b.ensures) in
    let h = sorted-along _ (b.left.entries ++ e ∷ b.right.entries) whole c.self.invariant.rises in
    let there = c.as_slice.ensures.value ∙ ap (λ (x : Entry g.row.V.Denot). x.key.items) c.deref-entry.ensures in
    let o : slice_cmp nat_cmp k e.0 ≡ Equal = sym (ap (slice_cmp nat_cmp k) there) ∙ sym c.cmp.ensures ∙ c.in-Equal.is in
    sorted-along _ _ (without-equal k b.left.entries e b.right.entries h o) (sorted-without k (b.left.entries ++ e ∷ b.right.entries) h)

pub returns-in-Equal : goal.returns-in-Equal
returns-in-Equal g t c =
    let b = c.deref-b.result.now in
    let e = pair (arc_value b.entry) in
    let k = c.args.key.now in
    let whole = ap listed c.in-Fork.is ∙ ap (λ (d : Branch g.row.V.Denot). d.left.entries ++ pair (arc_value d.entry) ∷ d.right.entries) (sym c.deref-b.ensures) in
    let h = sorted-along _ (b.left.entries ++ e ∷ b.right.entries) whole c.self.invariant.rises in
    let there = c.as_slice.ensures.value ∙ ap (λ (x : Entry g.row.V.Denot). x.key.items) c.deref-entry.ensures in
    let o : slice_cmp nat_cmp k e.0 ≡ Equal = sym (ap (slice_cmp nat_cmp k) there) ∙ sym c.cmp.ensures ∙ c.in-Equal.is in
    IfOk-weaker c.without_entry.result _ _
    (λ t' is. is ∙ sym (without-equal k b.left.entries e b.right.entries h o) ∙ sym (ap (without k) (sym (ap (λ (s : Shape g.row.V.Denot). s.entries) c.self.view_is) ∙ whole)))
    c.without_entry.ensures
