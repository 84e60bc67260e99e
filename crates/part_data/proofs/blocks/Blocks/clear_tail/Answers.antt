use Rattle.std.proofs.Common.{arith}
use Rattle.std.proofs.lemmas.Grind.{common_steps}
use Rattle.part_data.proofs.Positions.{cleared_before, cleared_after}
use Rattle.part_data.proofs.blocks.Blocks.clear_tail.Goals as goal

pub returns : goal.returns
returns c = grind (arith, common_steps, cleared_before, cleared_after)
