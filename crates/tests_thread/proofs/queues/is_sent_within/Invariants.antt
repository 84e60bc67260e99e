use Rattle.std.proofs.Common.{◌≡◌}
use Rattle.op_shards.specs.Passes.{Grew}
use Rattle.tests_thread.proofs.queues.is_sent_within.Given as goal

abbrev pub ghosts-sending_goes_on : goal.ghosts-sending_goes_on
ghosts-sending_goes_on g a = record { holds = λ job. job.group ≡ a.about.now }

abbrev pub invariant-loop : goal.invariant-loop
invariant-loop g l = record { queues : l.pass.queues ≡ l.shards.queues; grew : Grew l.fn.pass l.pass }
