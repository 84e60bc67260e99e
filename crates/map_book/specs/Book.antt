-- The maps of a cluster: a monitor for each group.
use Rattle.std.specs.Prelude.{◌≡◌, ℕ, suc, ◌+◌, ◌≤◌, length, slice_get, ◌-◌, ◌^◌, List, [], ◌∷◌, take, map, replicate}
use Rattle.std.specs.Prelude.{Bool, true, not, ◌&&◌, ◌==◌, nat_lt, nat_le, if◌then◌else◌, Option, Some, None}
use Rattle.placement.specs.Placement.{ranked, are_nodes, is_group_count}
use Rattle.group_world.specs.Maps.{GroupMap}
use Rattle.group_world.specs.Monitor.{MonitorState, no_maps, next_map, with_map}
use Rattle.map_book.specs.declared.map_error.MapError.{MapError}
use Rattle.map_book.specs.declared.map_error.MapError.TheVariants.{NoneUp, Limit, EpochsUsedUp}
use Rattle.map_book.specs.declared.new_map.NewMap.{NewMap}

-- what the maps of a cluster are made from
pub record Book : Type 0 where
  -- the number of the cluster's nodes; each node's number is below it
  pub nodes : ℕ
  -- the number of nodes that act for a group, if enough are up
  pub replicas : ℕ
  -- the epoch of the newest maps, 0 before the first
  pub epoch : ℕ
  -- each group's monitor, by the group's number
  pub monitors : List MonitorState

-- What is true of every book: its numbers are within their limits, and all newest maps have the
-- same epoch.
pub record IsBook (nodes replicas epoch : ℕ) (monitors : List MonitorState) : Type 0 where
  pub few_nodes : nodes ≤ 16
  pub some_replicas : 1 ≤ replicas
  pub few_replicas : replicas ≤ 3
  pub counted : is_group_count (length monitors) ≡ true
  pub one_epoch : (group : ℕ) (m : MonitorState) → slice_get monitors group ≡ Some m → m.newest.epoch ≡ epoch

-- the monitors of n groups before their first map
abbrev pub new_monitors : ℕ → List MonitorState
new_monitors n = replicate n no_maps

-- each node is below a number
abbrev pub are_below : ℕ → List ℕ → Bool
are_below bound [] = true
are_below bound (n ∷ ns) = nat_lt n bound && are_below bound ns

-- each is the number of a node of the cluster, and none is there twice
abbrev pub are_nodes_of : ℕ → List ℕ → Bool
are_nodes_of nodes up = are_below nodes up && are_nodes up

-- Limit by a node that isn't the cluster's or stands twice, or else EpochsUsedUp
abbrev pub refusal_of : Book → List ℕ → Option MapError
refusal_of b up = if not (are_nodes_of b.nodes up) then Some Limit else
    if nat_le (2 ^ 32 - 1) b.epoch then Some EpochsUsedUp else None

-- Why the book refuses to make maps of these up nodes, if it does: the first reason that applies.
abbrev pub book_refusal : Book → List ℕ → Option MapError
book_refusal b [] = Some NoneUp
book_refusal b (n ∷ ns) = refusal_of b (n ∷ ns)

-- the acting list of a group: the first of the up nodes by rank, one for each replica, or all if
-- fewer are up
abbrev pub acting_list : ℕ → List ℕ → ℕ → List ℕ
acting_list replicas up group = take replicas (ranked group up)

-- the monitors of the groups from a number on, each after one more map
abbrev pub moved_from : ℕ → ℕ → List ℕ → List MonitorState → List MonitorState
moved_from group replicas up [] = []
moved_from group replicas up (m ∷ ms) =
    with_map m (acting_list replicas up group) ∷ moved_from (group + 1) replicas up ms

-- a map, and whether it begins an interval
abbrev pub new_after : GroupMap → GroupMap → NewMap
new_after before next = record { map = next; is_new_interval = not (next.interval == before.interval) }

-- their new maps
abbrev pub maps_from : ℕ → ℕ → List ℕ → List MonitorState → List NewMap
maps_from group replicas up [] = []
maps_from group replicas up (m ∷ ms) =
    new_after m.newest (next_map m (acting_list replicas up group)) ∷ maps_from (group + 1) replicas up ms

-- each group's newest map
abbrev pub newest_maps : List MonitorState → List GroupMap
newest_maps ms = map (λ m. m.newest) ms

-- the book after one more map of each group
abbrev pub moved : Book → List ℕ → Book
moved b up = record {
  nodes = b.nodes;
  replicas = b.replicas;
  epoch = suc b.epoch;
  monitors = moved_from 0 b.replicas up b.monitors;
}

-- the new maps of its groups
abbrev pub new_maps : Book → List ℕ → List NewMap
new_maps b up = maps_from 0 b.replicas up b.monitors
