use Rattle.std.proofs.Common.{arith}
use Rattle.std.proofs.lemmas.Grind.{common_steps}
use Rattle.class_tool.proofs.tool.find.Goals as goal

pub returns-in-Err-run_and_save-clause-fails : goal.returns-in-Err-run_and_save-clause-fails
returns-in-Err-run_and_save-clause-fails g c = grind (arith, common_steps)
