-- The limits of a cluster.
use Rattle.std.specs.Prelude.{ℕ, Bool, ◌&&◌, nat_le}
use Rattle.placement.specs.Placement.{is_group_count}
use Rattle.osd.specs.declared.config.Config.{Config}

-- n is from low to high
abbrev pub is_between : ℕ → ℕ → ℕ → Bool
is_between low high n = nat_le low n && nat_le n high

-- each number is within its limits
abbrev pub is_within_limits : Config → Bool
is_within_limits c = is_between 1 16 c.nodes && (is_between 1 3 c.replicas && (is_group_count c.groups
    && (is_between 1 64 c.shards && (is_between 1 16 c.workers && nat_le 1 c.tries))))
