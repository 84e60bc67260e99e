use Rattle.std.proofs.Common.{arith}
use Rattle.std.proofs.lemmas.Grind.{common_steps}
use Rattle.sillarnica.proofs.method.find.Goals as goal

pub returns-then-eq : goal.returns-then-eq
returns-then-eq c = grind (arith, common_steps)

pub loop-method-preserved : goal.loop-method-preserved
loop-method-preserved c = grind (arith, common_steps)
