use Rattle.std.proofs.Common.{map, drop}
use Rattle.part_bytes.specs.View.{block_view}
use Rattle.parts.specs.Agreed.{HasBlocks}
use Rattle.large_objects.proofs.agreed.has_blocks.Given as goal

-- if the data has the blocks that are left, it has all
abbrev pub invariant-loop-block : goal.invariant-loop-block
invariant-loop-block l = HasBlocks (map block_view (drop l.block-index l.blocks)) l.bytes → HasBlocks (map block_view l.blocks) l.bytes
