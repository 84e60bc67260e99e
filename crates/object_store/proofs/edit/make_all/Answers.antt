use Rattle.std.proofs.Common.{arith}
use Rattle.std.proofs.lemmas.Grind.{common_steps}
use Rattle.object_store.proofs.edit.make_all.Goals as goal

pub loop-edit-preserved : goal.loop-edit-preserved
loop-edit-preserved g c = grind (arith, common_steps)

pub returns-in_err-make : goal.returns-in_err-make
returns-in_err-make g c = grind (arith, common_steps)
