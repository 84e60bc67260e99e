use Rattle.std.proofs.Common.{ap}
use Rattle.peering.proofs.node.GroupNode.move_to.Goals as goal

pub returns-in-Installing-clause-number : goal.returns-in-Installing-clause-number
returns-in-Installing-clause-number g c = ap (λ z. z.number) c.self.view_is
