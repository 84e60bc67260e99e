use Rattle.std.proofs.Common.{◌≡◌, map}
use Rattle.part_bytes.specs.View.{block_view}
use Rattle.loop_objects.specs.inner.Whole.{first_blocks}
use Rattle.loop_objects.proofs.whole.blocks_of.Given as goal

abbrev pub invariant-loop-number : goal.invariant-loop-number
invariant-loop-number l = map block_view l.blocks.items ≡ first_blocks l.bytes l.number
