use Rattle.std.proofs.Common.{◌≡◌}
use Rattle.sim_world.proofs.Bucketing.{fresh}
use Rattle.sim_world.proofs.sent.fresh_buckets.Given as goal

-- the buckets so far
abbrev pub invariant-loop-at : goal.invariant-loop-at
invariant-loop-at l = l.buckets.items ≡ fresh l._at
