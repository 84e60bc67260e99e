use Rattle.std.proofs.Common.{arith}
use Rattle.std.proofs.lemmas.Grind.{common_steps}
use Rattle.class_tool.proofs.action_result.write_methods.Goals as goal

pub loop-method-preserved : goal.loop-method-preserved
loop-method-preserved g c = grind (arith, common_steps)
