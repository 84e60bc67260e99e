use Rattle.abstract_num.proofs.holding.domain_of_numbers.Goals as goal

pub returns : goal.returns
returns c =
    λ x n. (
      λ h. record { fits = h.0.2; above = h.0.0; below = h.0.1; at_least = h.1.0.0; at_most = h.1.0.1; agrees = h.1.1.0.0; half_at_least = h.1.1.1.0; half_at_most = h.1.1.1.1 },
      λ h. ((h.above, h.below, h.fits), ((h.at_least, h.at_most, h.fits), ((h.agrees, h.fits), (h.half_at_least, h.half_at_most, h.fits)))),
    )
