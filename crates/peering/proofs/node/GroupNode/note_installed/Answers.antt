use Rattle.std.proofs.Common.{arith}
use Rattle.std.proofs.lemmas.Grind.{common_steps}
use Rattle.peering.proofs.node.GroupNode.note_installed.Goals as goal

pub returns-clause-done : goal.returns-clause-done
returns-clause-done g c = grind (arith, common_steps)
