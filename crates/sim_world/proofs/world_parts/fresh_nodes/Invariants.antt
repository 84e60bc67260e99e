use Rattle.std.proofs.Common.{◌≡◌}
use Rattle.sim_world.specs.inner.Parts.{fresh_nodes}
use Rattle.sim_world.proofs.world_parts.fresh_nodes.Given as goal

-- the nodes so far
abbrev pub invariant-loop-number : goal.invariant-loop-number
invariant-loop-number g l = l.nodes.items ≡ fresh_nodes l.number
