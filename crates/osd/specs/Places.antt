-- A node's part in a group, of which there is one for each of both.
use Rattle.std.specs.Prelude.{ℕ, ◌<◌, ◌≤◌, ◌⊎◌}
use Rattle.osd.specs.declared.config.Config.{Config}

-- the cluster has both, or lacks one of them:
abbrev pub IsThere : Config → ℕ → ℕ → Type 0
IsThere c node group = (node < c.nodes) × (group < c.groups)

abbrev pub IsMissing : Config → ℕ → ℕ → Type 0
IsMissing c node group = (c.nodes ≤ node) ⊎ (c.groups ≤ group)
