use Rattle.std.proofs.Common.{◌≡◌}
use Rattle.tests_thread.proofs.queues.take_into.Given as goal

abbrev pub invariant-loop : goal.invariant-loop
invariant-loop g l = l.pass.queues ≡ l.shards.queues
