use Rattle.std.proofs.Common.{ap, sym, ◌∙◌}
use Rattle.object_store.specs.Object.{Content}
use Rattle.object_store.proofs.Same.{same_parts}
use Rattle.object_store.proofs.held.Held.is_same.Goals as goal
use Rattle.object_store.proofs.held.Held.is_same.Goals.{then-is_same, else-is_same}

pub returns-then-is_same-2 : goal.returns-then-is_same-2
returns-then-is_same-2 c =
    elim c.if-is_same.branch [
      | then-is_same w ↦ (
        λ t. sym c.self.view_is ∙ same_parts _ _ (c.is_same.ensures.0 w.if-is_same.true) (w.is_same-then-is_same.ensures.0 (sym w.value-is ∙ c.if-is_same-2.true)) (c.is_same-then-is_same-2.ensures.0 t) ∙ c.other.view_is,
        λ e. c.is_same-then-is_same-2.ensures.1 (ap (λ (o : Content). o.omap) (c.self.view_is ∙ e ∙ sym c.other.view_is)),
      )
      | else-is_same w ↦ absurd (cc)
    ]

pub returns-else-is_same-2 : goal.returns-else-is_same-2
returns-else-is_same-2 c = (
  λ t. absurd (cc),
  λ e. elim c.if-is_same.branch [
    | then-is_same w ↦ w.value-is ∙ w.is_same-then-is_same.ensures.1 (ap (λ (o : Content). o.xattrs) (c.self.view_is ∙ e ∙ sym c.other.view_is))
    | else-is_same w ↦
        let same = c.is_same.ensures.1 (ap (λ (o : Content). o.bytes) (c.self.view_is ∙ e ∙ sym c.other.view_is)) in
        absurd (cc (same, w.if-is_same.false))
  ],
)
