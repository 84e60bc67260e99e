use Rattle.std.proofs.Common.{◌≡◌, refl, ◌∷◌, ◌++◌, ap, sym, ◌∙◌}
use Rattle.std.specs.Arc.{arc_value}
use Rattle.std.specs.Ordering.{nat_cmp}
use Rattle.std.specs.Cmp.Lexicographic.{slice_cmp}
use Rattle.std.specs.declared.cmp.Ordering.TheVariants.{Less, Equal, Greater}
use Rattle.std.specs.FinMap.{put}
use Rattle.std.proofs.lemmas.Result.{IfOk-weaker}
use Rattle.std.proofs.lemmas.Map.Lookups.{exact_bytes}
use Rattle.shared_map.specs.Shape.{Shape}
use Rattle.shared_map.specs.Tree.{pair, listed}
use Rattle.shared_map.specs.declared.tree.Branch.{Branch}
use Rattle.shared_map.specs.declared.tree.Entry.{Entry}
use Rattle.shared_map.proofs.Halves.{put-less, put-equal, put-greater, sorted-put, sorted-along, same_parts}
use Rattle.shared_map.proofs.tree.Tree.+set.Goals as goal

pub with_left-requires : goal.with_left-requires
with_left-requires g t c =
    let b = c.deref-b.result.now in
    let e = pair (arc_value b.entry) in
    let n = pair (arc_value c.args.new) in
    let whole = ap listed c.in-Fork.is ∙ ap (λ (d : Branch g.row.V.Denot). d.left.entries ++ pair (arc_value d.entry) ∷ d.right.entries) (sym c.deref-b.ensures) in
    let h = sorted-along _ (b.left.entries ++ e ∷ b.right.entries) whole c.self.invariant.rises in
    let there = c.as_slice-in-Fork.ensures.value ∙ ap (λ (x : Entry g.row.V.Denot). x.key.items) c.deref-entry.ensures in
    let here = c.as_slice.ensures.value ∙ ap (λ (x : Entry g.row.V.Denot). x.key.items) c.deref.ensures in
    let o : slice_cmp nat_cmp n.0 e.0 ≡ Less = sym (ap (λ q. slice_cmp nat_cmp q e.0) here) ∙ sym (ap (slice_cmp nat_cmp c.as_slice.result.now) there) ∙ sym c.cmp.ensures ∙ c.in-Less.is in
    sorted-along _ _ (put-less n.0 n.1 b.left.entries e b.right.entries o ∙ sym (ap (λ l. l ++ e ∷ b.right.entries) c.in_ok-set-in-Less.ensures)) (sorted-put n.0 n.1 (b.left.entries ++ e ∷ b.right.entries) h)

pub returns-in_ok-set-in-Less : goal.returns-in_ok-set-in-Less
returns-in_ok-set-in-Less g t c =
    let b = c.deref-b.result.now in
    let e = pair (arc_value b.entry) in
    let n = pair (arc_value c.args.new) in
    let whole = ap listed c.in-Fork.is ∙ ap (λ (d : Branch g.row.V.Denot). d.left.entries ++ pair (arc_value d.entry) ∷ d.right.entries) (sym c.deref-b.ensures) in
    let h = sorted-along _ (b.left.entries ++ e ∷ b.right.entries) whole c.self.invariant.rises in
    let there = c.as_slice-in-Fork.ensures.value ∙ ap (λ (x : Entry g.row.V.Denot). x.key.items) c.deref-entry.ensures in
    let here = c.as_slice.ensures.value ∙ ap (λ (x : Entry g.row.V.Denot). x.key.items) c.deref.ensures in
    let o : slice_cmp nat_cmp n.0 e.0 ≡ Less = sym (ap (λ q. slice_cmp nat_cmp q e.0) here) ∙ sym (ap (slice_cmp nat_cmp c.as_slice.result.now) there) ∙ sym c.cmp.ensures ∙ c.in-Less.is in
    IfOk-weaker c.with_left.result _ _
    (λ t' is. is ∙ ap (λ l. l ++ e ∷ b.right.entries) c.in_ok-set-in-Less.ensures ∙ sym (put-less n.0 n.1 b.left.entries e b.right.entries o) ∙ sym (ap (put (slice_cmp nat_cmp) n.0 n.1) (sym (ap (λ (s : Shape g.row.V.Denot). s.entries) c.self.view_is) ∙ whole)))
    c.with_left.ensures

pub with_right-requires : goal.with_right-requires
with_right-requires g t c =
    let b = c.deref-b.result.now in
    let e = pair (arc_value b.entry) in
    let n = pair (arc_value c.args.new) in
    let whole = ap listed c.in-Fork.is ∙ ap (λ (d : Branch g.row.V.Denot). d.left.entries ++ pair (arc_value d.entry) ∷ d.right.entries) (sym c.deref-b.ensures) in
    let h = sorted-along _ (b.left.entries ++ e ∷ b.right.entries) whole c.self.invariant.rises in
    let there = c.as_slice-in-Fork.ensures.value ∙ ap (λ (x : Entry g.row.V.Denot). x.key.items) c.deref-entry.ensures in
    let here = c.as_slice.ensures.value ∙ ap (λ (x : Entry g.row.V.Denot). x.key.items) c.deref.ensures in
    let o : slice_cmp nat_cmp n.0 e.0 ≡ Greater = sym (ap (λ q. slice_cmp nat_cmp q e.0) here) ∙ sym (ap (slice_cmp nat_cmp c.as_slice.result.now) there) ∙ sym c.cmp.ensures ∙ c.in-Greater.is in
    sorted-along _ _ (put-greater n.0 n.1 b.left.entries e b.right.entries h o ∙ sym (ap (λ r. b.left.entries ++ e ∷ r) c.in_ok-set-in-Greater.ensures)) (sorted-put n.0 n.1 (b.left.entries ++ e ∷ b.right.entries) h)

pub returns-in_ok-set-in-Greater : goal.returns-in_ok-set-in-Greater
returns-in_ok-set-in-Greater g t c =
    let b = c.deref-b.result.now in
    let e = pair (arc_value b.entry) in
    let n = pair (arc_value c.args.new) in
    let whole = ap listed c.in-Fork.is ∙ ap (λ (d : Branch g.row.V.Denot). d.left.entries ++ pair (arc_value d.entry) ∷ d.right.entries) (sym c.deref-b.ensures) in
    let h = sorted-along _ (b.left.entries ++ e ∷ b.right.entries) whole c.self.invariant.rises in
    let there = c.as_slice-in-Fork.ensures.value ∙ ap (λ (x : Entry g.row.V.Denot). x.key.items) c.deref-entry.ensures in
    let here = c.as_slice.ensures.value ∙ ap (λ (x : Entry g.row.V.Denot). x.key.items) c.deref.ensures in
    let o : slice_cmp nat_cmp n.0 e.0 ≡ Greater = sym (ap (λ q. slice_cmp nat_cmp q e.0) here) ∙ sym (ap (slice_cmp nat_cmp c.as_slice.result.now) there) ∙ sym c.cmp.ensures ∙ c.in-Greater.is in
    IfOk-weaker c.with_right.result _ _
    (λ t' is. is ∙ ap (λ r. b.left.entries ++ e ∷ r) c.in_ok-set-in-Greater.ensures ∙ sym (put-greater n.0 n.1 b.left.entries e b.right.entries h o) ∙ sym (ap (put (slice_cmp nat_cmp) n.0 n.1) (sym (ap (λ (s : Shape g.row.V.Denot). s.entries) c.self.view_is) ∙ whole)))
    c.with_right.ensures

pub joined-requires-in-Equal : goal.joined-requires-in-Equal
joined-requires-in-Equal g t c =
    let b = c.deref-b.result.now in
    let e = pair (arc_value b.entry) in
    let n = pair (arc_value c.args.new) in
    let whole = ap listed c.in-Fork.is ∙ ap (λ (d : Branch g.row.V.Denot). d.left.entries ++ pair (arc_value d.entry) ∷ d.right.entries) (sym c.deref-b.ensures) in
    let h = sorted-along _ (b.left.entries ++ e ∷ b.right.entries) whole c.self.invariant.rises in
    let there = c.as_slice-in-Fork.ensures.value ∙ ap (λ (x : Entry g.row.V.Denot). x.key.items) c.deref-entry.ensures in
    let here = c.as_slice.ensures.value ∙ ap (λ (x : Entry g.row.V.Denot). x.key.items) c.deref.ensures in
    let o : slice_cmp nat_cmp n.0 e.0 ≡ Equal = sym (ap (λ q. slice_cmp nat_cmp q e.0) here) ∙ sym (ap (slice_cmp nat_cmp c.as_slice.result.now) there) ∙ sym c.cmp.ensures ∙ c.in-Equal.is in
    sorted-along _ _ (put-equal n.0 n.1 b.left.entries e b.right.entries h o (exact_bytes _ _ o) ∙ sym (same_parts _ _ _ _ _ _ (ap (λ (s : Shape g.row.V.Denot). s.entries) c.in_ok-copy-in-Equal.ensures) refl (ap (λ (s : Shape g.row.V.Denot). s.entries) c.in_ok-copy-in-Equal-2.ensures))) (sorted-put n.0 n.1 (b.left.entries ++ e ∷ b.right.entries) h)

pub returns-in_ok-copy-in-Equal-2 : goal.returns-in_ok-copy-in-Equal-2
returns-in_ok-copy-in-Equal-2 g t c =
    let b = c.deref-b.result.now in
    let e = pair (arc_value b.entry) in
    let n = pair (arc_value c.args.new) in
    let whole = ap listed c.in-Fork.is ∙ ap (λ (d : Branch g.row.V.Denot). d.left.entries ++ pair (arc_value d.entry) ∷ d.right.entries) (sym c.deref-b.ensures) in
    let h = sorted-along _ (b.left.entries ++ e ∷ b.right.entries) whole c.self.invariant.rises in
    let there = c.as_slice-in-Fork.ensures.value ∙ ap (λ (x : Entry g.row.V.Denot). x.key.items) c.deref-entry.ensures in
    let here = c.as_slice.ensures.value ∙ ap (λ (x : Entry g.row.V.Denot). x.key.items) c.deref.ensures in
    let o : slice_cmp nat_cmp n.0 e.0 ≡ Equal = sym (ap (λ q. slice_cmp nat_cmp q e.0) here) ∙ sym (ap (slice_cmp nat_cmp c.as_slice.result.now) there) ∙ sym c.cmp.ensures ∙ c.in-Equal.is in
    IfOk-weaker c.joined-in-Equal-2.result _ _
    (λ t' is. is ∙ same_parts _ _ _ _ _ _ (ap (λ (s : Shape g.row.V.Denot). s.entries) c.in_ok-copy-in-Equal.ensures) refl (ap (λ (s : Shape g.row.V.Denot). s.entries) c.in_ok-copy-in-Equal-2.ensures) ∙ sym (put-equal n.0 n.1 b.left.entries e b.right.entries h o (exact_bytes _ _ o)) ∙ sym (ap (put (slice_cmp nat_cmp) n.0 n.1) (sym (ap (λ (s : Shape g.row.V.Denot). s.entries) c.self.view_is) ∙ whole)))
    c.joined-in-Equal-2.ensures
