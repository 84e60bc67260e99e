-- Two numbers in plain numbers are the same where their eight numbers are.
use Rattle.std.proofs.Common.{◌≡◌, ℕ, ℤ, ap, ◌∙◌}
use Rattle.abstract_num.specs.Plain.{Plain}

abbrev plain_of : ℕ → ℕ → ℤ → ℤ → ℕ → ℕ → ℤ → ℤ → Plain
plain_of a b p q v m h k = record { low = a; high = b; least = p; greatest = q; value = v; unknown = m; half_least = h; half_greatest = k }

pub plain_same : (x y : Plain) → x.low ≡ y.low → x.high ≡ y.high → x.least ≡ y.least → x.greatest ≡ y.greatest → x.value ≡ y.value → x.unknown ≡ y.unknown → x.half_least ≡ y.half_least → x.half_greatest ≡ y.half_greatest → x ≡ y
plain_same x y a b p q v m h k =
    ap (λ n. plain_of n x.high x.least x.greatest x.value x.unknown x.half_least x.half_greatest) a
    ∙ ap (λ n. plain_of y.low n x.least x.greatest x.value x.unknown x.half_least x.half_greatest) b
    ∙ ap (λ z. plain_of y.low y.high z x.greatest x.value x.unknown x.half_least x.half_greatest) p
    ∙ ap (λ z. plain_of y.low y.high y.least z x.value x.unknown x.half_least x.half_greatest) q
    ∙ ap (λ n. plain_of y.low y.high y.least y.greatest n x.unknown x.half_least x.half_greatest) v
    ∙ ap (λ n. plain_of y.low y.high y.least y.greatest y.value n x.half_least x.half_greatest) m
    ∙ ap (λ z. plain_of y.low y.high y.least y.greatest y.value y.unknown z x.half_greatest) h
    ∙ ap (λ z. plain_of y.low y.high y.least y.greatest y.value y.unknown y.half_least z) k
