use Rattle.std.proofs.Common.{arith}
use Rattle.std.proofs.lemmas.Grind.{common_steps}
use Rattle.object_store.proofs.extent_data.ExtentData.resize.Goals as goal

pub remake-requires : goal.remake-requires
remake-requires c = grind (arith, common_steps)
