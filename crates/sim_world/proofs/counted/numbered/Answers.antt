use Rattle.std.proofs.Common.{arith}
use Rattle.std.proofs.lemmas.Grind.{elements}
use Rattle.sim_world.proofs.counted.numbered.Goals as goal

pub returns : goal.returns
returns g c = grind (arith, elements)
