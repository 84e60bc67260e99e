use Rattle.std.proofs.Common.{arith}
use Rattle.std.proofs.lemmas.Grind.{common_steps}
use Rattle.part_data.proofs.Positions.{over_met, over_before, over_after}
use Rattle.part_data.proofs.blocks.Blocks.write_block.Goals as goal

pub returns : goal.returns
returns c = grind (arith, common_steps, over_met, over_before, over_after)
