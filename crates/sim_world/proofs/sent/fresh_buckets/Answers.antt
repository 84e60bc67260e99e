use Rattle.std.proofs.Common.{arith}
use Rattle.sim_world.proofs.Bucketing.{in_buckets_none}
use Rattle.sim_world.proofs.sent.fresh_buckets.Goals as goal

pub returns : goal.returns
returns c = in_buckets_none c.loop-at.buckets.items c.loop-at._at (omega arith) c.loop-at.invariant
