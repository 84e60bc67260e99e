use Rattle.std.proofs.Common.{map, inr}
use Rattle.part_bytes.specs.Part.{after_block}
use Rattle.part_bytes.specs.View.{block_view}
use Rattle.part_bytes.specs.inner.Reading.{block_at}
use Rattle.part_bytes.proofs.Loops.{goes_on_by, is_refused, is_done}
use Rattle.part_bytes.proofs.blocks.blocks_in_turn.Goals as goal

pub returns-in_default : goal.returns-in_default
returns-in_default c = inr (is_refused (block_at c.args.size) after_block _ (map block_view _) c.loop-left.least c.loop-left.left c.loop-left.rest.now c.loop-left-test.true c.in_default.ensures.read c.loop-left.invariant)

pub loop-left-preserved : goal.loop-left-preserved
loop-left-preserved c =
    goes_on_by (block_at c.args.size) after_block block_view _ _ c.push.new.self.items c.loop-left.least c.loop-left.left c.loop-left.rest.now c.in-Some.block c.in-Some.behind.now
    c.loop-left-test.true c.in-Some.ensures.read c.in_ok-push.ensures.items c.loop-left.invariant

pub returns : goal.returns
returns c = is_done (block_at c.args.size) after_block _ (map block_view _) c.loop-left.least c.loop-left.left c.loop-left.rest.now c.loop-left-test.false c.loop-left.invariant
