-- A map that a monitor may keep.
use Rattle.std.specs.Prelude.{◌≡◌, None}
use Rattle.group_world.specs.Maps.{GroupMap}
use Rattle.group_world.specs.Monitor.{MonitorState, map_refusal, next_map}

-- The monitor would make a map of the map's acting list, and this is that map.
pub record IsNextMap (m : MonitorState) (map : GroupMap) : Type 0 where
  pub unrefused : map_refusal m map.acting ≡ None
  pub next : map ≡ next_map m map.acting
