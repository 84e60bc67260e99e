-- The monitor of a group: it makes maps and activates intervals. Its state has a constant size.
use Rattle.std.specs.Prelude.{◌≡◌, ℕ, suc, ◌-◌, ◌^◌, List, Bool, true, not, ◌&&◌, ◌==◌, nat_lt, nat_le, if◌then◌else◌}
use Rattle.std.specs.Prelude.{Option, Some, None}
use Rattle.placement.specs.Placement.{is_acting}
use Rattle.group_world.specs.Maps.{GroupMap, ActingInterval, no_map, no_interval, interval_of, is_same_list}
use Rattle.group_world.specs.declared.monitor_error.MonitorError.{MonitorError}
use Rattle.group_world.specs.declared.monitor_error.MonitorError.TheVariants.{BadActing, NotNewest, EpochsUsedUp}

-- what a monitor remembers
pub record MonitorState : Type 0 where
  -- the newest map; its epoch is the number of maps made
  pub newest : GroupMap
  -- the newest map's interval at the last activation
  pub activated : ActingInterval

-- the monitor before its first map
abbrev pub no_maps : MonitorState
no_maps = record { newest = no_map; activated = no_interval }

-- why the monitor refuses to make a map of this acting list, if it does
abbrev pub map_refusal : MonitorState → List ℕ → Option MonitorError
map_refusal m acting = if not (is_acting acting) then Some BadActing else
    if nat_le (2 ^ 32 - 1) m.newest.epoch then Some EpochsUsedUp else None

-- The next map. If its acting list is that of the newest map, in the same order, it keeps that
-- map's interval and previous interval. Else a new interval begins, and its previous interval is
-- the one activated last.
abbrev pub next_map : MonitorState → List ℕ → GroupMap
next_map m acting = if is_same_list m.newest.acting acting
    then record {
      epoch = suc m.newest.epoch;
      interval = m.newest.interval;
      acting = acting;
      prev = m.newest.prev;
      prev_acting = m.newest.prev_acting;
    }
    else record {
      epoch = suc m.newest.epoch;
      interval = suc m.newest.epoch;
      acting = acting;
      prev = m.activated.interval;
      prev_acting = m.activated.acting;
    }

-- the monitor after its next map
abbrev pub with_map : MonitorState → List ℕ → MonitorState
with_map m acting = record { newest = next_map m acting; activated = m.activated }

-- the interval is that of the newest map, and there is one
abbrev pub is_newest : MonitorState → ℕ → Bool
is_newest m interval = nat_lt 0 interval && interval == m.newest.interval

-- why the monitor refuses to activate an interval, if it does
abbrev pub activation_refusal : MonitorState → ℕ → Option MonitorError
activation_refusal m interval = if is_newest m interval then None else Some NotNewest

-- the monitor after it activated its newest interval
abbrev pub with_activated : MonitorState → MonitorState
with_activated m = record { newest = m.newest; activated = interval_of m.newest }

-- An activated interval that the next map keeps stays activated: a further activation changes
-- nothing.
abbrev pub KeptStaysActivated : Type 0
KeptStaysActivated = (m : MonitorState) (acting : List ℕ) → is_same_list m.newest.acting acting ≡ true →
    with_activated (with_map (with_activated m) acting) ≡ with_map (with_activated m) acting
