use Rattle.std.proofs.Common.{arith}
use Rattle.std.proofs.lemmas.Grind.{common_steps}
use Rattle.peering.proofs.node.GroupNode.receive.Goals as goal

pub returns-in-Install-clause-done : goal.returns-in-Install-clause-done
returns-in-Install-clause-done g c = grind (arith, common_steps)
