-- Proved; nothing here need be believed.
-- Two parts side by side keep every number that each of them keeps.
use Rattle.std.specs.Prelude.{Option, Some, None, IsSomeAnd}
use Rattle.std.proofs.Common.{⊎_elim}
use Rattle.abstract_num.specs.declared.product.Product.{Product}
use Rattle.abstract_num.specs.Both.{BothRefine}

pub both_kept : {A B : Type 0} (P : Option (A × A) → Type 0) (Q : Option (B × B) → Type 0) (H K : A → Type 0) (I J : B →
    Type 0)
    → ((a : Option (A × A)) → P a → IsSomeAnd a (λ s. H s.0 × K s.1))
    → ((b : Option (B × B)) → Q b → IsSomeAnd b (λ s. I s.0 × J s.1))
    → (r : Option (Product A B × Product A B)) → BothRefine P Q r
    → IsSomeAnd r (λ s. (H s.0.first × I s.0.second) × (K s.1.first × J s.1.second))
both_kept P Q H K I J f g None h = ⊎_elim (f None) (g None) h
both_kept P Q H K I J f g (Some s) h =
    let a = f (Some (s.0.first, s.1.first)) h.0 in
    let b = g (Some (s.0.second, s.1.second)) h.1 in ((a.0, b.0), (a.1, b.1))
