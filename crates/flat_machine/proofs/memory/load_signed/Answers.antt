use Rattle.std.proofs.Common.{arith}
use Rattle.std.proofs.lemmas.Grind.{elements}
use Rattle.flat_machine.proofs.memory.load_signed.Goals as goal

pub returns : goal.returns
returns c = grind (arith, elements)
