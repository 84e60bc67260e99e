use Rattle.std.proofs.Common.{◌≡◌, drop}
use Rattle.pg_log.specs.Entries.{requests_of}
use Rattle.group_world.specs.Rules.{begins}
use Rattle.peering.proofs.node.lead.begins_with.Given as goal

abbrev pub invariant-loop-place : goal.invariant-loop-place
invariant-loop-place l = begins (requests_of (drop l.place l.entries)) (drop l.place l.list) ≡ begins (requests_of l.entries) l.list
