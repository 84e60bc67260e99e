use Rattle.std.proofs.Common.{arith}
use Rattle.std.proofs.lemmas.Grind.{common_steps}
use Rattle.object_store.proofs.extents.touched.Goals as goal

pub append_zeros-requires : goal.append_zeros-requires
append_zeros-requires c = grind (arith, common_steps)
