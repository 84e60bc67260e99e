use Rattle.std.proofs.Common.{List, sym, subst}
use Rattle.part_bytes.specs.Part.{Block}
use Rattle.part_bytes.specs.View.{block_view}
use Rattle.parts.proofs.Walk.{next_of}
use Rattle.parts.specs.Agreed.{HasBlocks}
use Rattle.large_objects.proofs.Walked.{block_here}
use Rattle.large_objects.proofs.agreed.has_blocks.Goals as goal

pub loop-block-preserved : goal.loop-block-preserved
loop-block-preserved c rest =
    c.loop-block.invariant (subst (λ (bs : List Block). HasBlocks bs c.args.bytes.now)
    (sym (next_of block_view c.args.blocks.now c.loop-block.block-index _ c.loop-block-test.true))
    (block_here c.args.bytes.now _ _ _ _ c.part.ensures.bytes c.in-Some.ensures.1 c.if-ne.ensures, rest))
