use Rattle.std.proofs.Common.{arith}
use Rattle.osd.proofs.Sending.{only_none, only_several}
use Rattle.osd.proofs.running.Running.round.Goals as goal

pub loop-init : goal.loop-init
loop-init g c = (omega (arith, c.count-shards.ensures.some), only_none _ _)

pub loop-preserved : goal.loop-preserved
loop-preserved g c = (c.next_shard-shard.ensures, only_several _ _ _ _ c.loop.invariant.1 c.take_turn-taken.ensures)
