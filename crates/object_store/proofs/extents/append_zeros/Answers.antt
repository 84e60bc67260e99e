use Rattle.std.proofs.Common.{arith}
use Rattle.std.proofs.lemmas.Grind.{common_steps}
use Rattle.object_store.proofs.extents.append_zeros.Goals as goal

-- turned by a_gap_is_not_zeroed
pub returns : goal.returns
returns c = grind (arith, common_steps)
