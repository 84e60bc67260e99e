use Rattle.osd.proofs.Sending.{only_none, only_same, only_from}
use Rattle.osd.proofs.running.Running.tell_if_behind.Goals as goal

pub returns-in_default : goal.returns-in_default
returns-in_default g c = only_none _ _

pub returns-then-not-is_behind : goal.returns-then-not-is_behind
returns-then-not-is_behind g c = only_none _ _

pub returns-then-not-has_room : goal.returns-then-not-has_room
returns-then-not-has_room g c = only_same _ _ _ c.has_room.ensures

pub returns : goal.returns
returns g c = only_from _ _ _ _ c.has_room.ensures c.tell_map.ensures
