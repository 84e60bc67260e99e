-- The cluster that the numbers of a file's first line make.
use Rattle.std.specs.Prelude.{◌^◌, ◌-◌, nat_le, if◌then◌else◌, Option, Some, None}
use Rattle.osd.specs.Limits.{is_within_limits}
use Rattle.osd.specs.declared.config.Config.{Config}
use Rattle.cluster_file.specs.declared.cluster_numbers.ClusterNumbers.{ClusterNumbers}

-- the same numbers
abbrev pub same_numbers : ClusterNumbers → Config
same_numbers n = record {
  nodes = n.nodes;
  replicas = n.replicas;
  groups = n.groups;
  shards = n.shards;
  workers = n.workers;
  tries = n.tries;
}

-- the cluster, if each number is within its limits
abbrev pub config_of : ClusterNumbers → Option Config
config_of n = if nat_le n.tries (2 ^ 32 - 1)
    then (if is_within_limits (same_numbers n) then Some (same_numbers n) else None) else None
