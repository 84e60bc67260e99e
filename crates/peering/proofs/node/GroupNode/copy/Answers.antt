use Rattle.std.proofs.Common.{◌≡◌, ap, arith, length}
use Rattle.std.proofs.lemmas.Grind.{common_steps}
use Rattle.peering.proofs.node.GroupNode.copy.Goals as goal

pub invariant_of-result : goal.invariant_of-result
invariant_of-result g c =
    let same = ap (λ w. length w) c.in-Ok.ensures.ok in
    let none : length c.none.result ≡ 0 = ap (λ w. length w) c.none.ensures in
    (omega (arith, same, c.self.invariant.0), λ h. absurd (omega arith))

pub returns-clause-ok : goal.returns-clause-ok
returns-clause-ok c = grind (arith, common_steps)
