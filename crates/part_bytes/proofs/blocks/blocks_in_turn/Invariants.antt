use Rattle.std.proofs.Common.{map}
use Rattle.part_bytes.specs.Part.{after_block}
use Rattle.part_bytes.specs.View.{block_view}
use Rattle.part_bytes.specs.inner.Reading.{block_at, in_turn}
use Rattle.part_bytes.proofs.Loops.{Along}
use Rattle.part_bytes.proofs.blocks.blocks_in_turn.Given as goal

abbrev pub invariant-loop-left : goal.invariant-loop-left
invariant-loop-left l = Along (block_at l.size) after_block (in_turn (block_at l.size) after_block 0 l.count l.bytes) (map block_view l.blocks.items) l.least l.left l.rest

abbrev pub decreases-loop-left : goal.decreases-loop-left
decreases-loop-left l = l.left
