-- Two parts side by side.
use Rattle.std.specs.Prelude.{◌⊎◌, Option, Some, None, MatchOption}
use Rattle.abstract_num.specs.declared.product.Product.{Product}

-- nothing is left if nothing is left of one part
abbrev pub BothRefine : {A B : Type 0} → (Option (A × A) → Type 0) → (Option (B × B) → Type 0) →
    Option (Product A B × Product A B) → Type 0
BothRefine P Q r =
    MatchOption r (P None ⊎ Q None) (λ s. P (Some (s.0.first, s.1.first)) × Q (Some (s.0.second, s.1.second)))
