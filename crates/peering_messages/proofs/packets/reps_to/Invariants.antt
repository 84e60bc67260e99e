use Rattle.std.proofs.Common.{◌≡◌, ◌++◌, drop}
use Rattle.pg_log.specs.Entries.{requests_of}
use Rattle.group_world.specs.Unanswered.{reps_from}
use Rattle.peering_messages.proofs.packets.reps_to.Given as goal

abbrev pub invariant-loop-place : goal.invariant-loop-place
invariant-loop-place l =
    l.sent.items ++ reps_from l.number l.node l.log.interval l.place (requests_of (drop l.place l.log.entries.now))
    ≡ l.initial.sent.items ++ reps_from l.number l.node l.log.interval l.from (requests_of (drop l.from l.log.entries.now))
