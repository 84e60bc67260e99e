use Rattle.std.proofs.Common.{◌<◌}
use Rattle.osd.specs.Sent.{OnlySent, IsAny}
use Rattle.osd.proofs.running.Running.round.Given as goal

abbrev pub invariant-loop : goal.invariant-loop
invariant-loop g l = (l.shard < l.shards) × OnlySent l.initial.worker l.worker IsAny
