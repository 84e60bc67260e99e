-- A line's effect on the world of a group, and its result. The events there, the nodes' steps and
-- the monitor are group_world's.
use Rattle.std.specs.Prelude.{ℕ, ◌-◌, nat_lt, Bool, true, false, List, [], ◌∷◌, ◌++◌, length, map, Option, Some, None}
use Rattle.std.specs.Prelude.{if◌then◌else◌, slice_set, slice_index_or, replicate}
use Rattle.pg_log.specs.Log.{Classes}
use Rattle.group_world.specs.Maps.{GroupMap}
use Rattle.group_world.specs.Node.{Outcome}
use Rattle.group_world.specs.Rules.{local_step}
use Rattle.group_world.specs.Unanswered.{unanswered}
use Rattle.group_world.specs.Monitor.{map_refusal, next_map, activation_refusal}
use Rattle.group_world.specs.World.{World, WorldEvent, RequestAt, MapMade, MapSeen, Delivered, opening, happens}
use Rattle.group_world.specs.declared.monitor_error.MonitorError.{MonitorError}
use Rattle.group_world.specs.declared.handle_error.HandleError.{HandleError}
use Rattle.group_world.specs.declared.party.Party.{Party}
use Rattle.group_world.specs.declared.party.Party.TheVariants.{Node as ANode, Monitor as TheMonitor, Client as AClient}
use Rattle.group_world.specs.declared.message.MessageKind.{MessageKind}
use Rattle.group_world.specs.declared.message.MessageKind.TheVariants.{AskActivate}
use Rattle.group_world.specs.declared.message.Message.{Message}
use Rattle.group_world.specs.declared.message.Packet.{Packet}
use Rattle.group_world.specs.declared.event.Event.{Event}
use Rattle.group_world.specs.declared.event.Event.TheVariants.{Request as ARequest, Map as AMap, Message as AMessage}
use Rattle.sim_world.specs.Lines.{numbered}
use Rattle.sim_world.specs.Texts.{made_of, shown_of}
use Rattle.sim_world.specs.declared.line.Line.{Line}
use Rattle.sim_world.specs.declared.line.Line.TheVariants as lines
use Rattle.sim_world.specs.declared.taken.Taken.{Taken}
use Rattle.sim_world.specs.declared.taken.Taken.TheVariants.{Bad, Skipped, Stopped, Sent, Refused, MonitorRefused, Made}
use Rattle.sim_world.specs.declared.taken.Taken.TheVariants.{Shown, Again}
use Rattle.sim_world.specs.Same.{number_of}

-- A PLAYED WORLD: the world of the group, which of the nodes 0 to 15 are stopped, and the events of
-- the group that happened, in their order.
pub record Played : Type 0 where
  pub world : World
  pub stopped : List Bool
  pub events : List WorldEvent

-- before the first line
abbrev pub beginning : Classes → Played
beginning classes = record { world = opening classes; stopped = replicate 16 false; events = [] }

-- The end of a line: the played world after it, and what comes of it.
pub record Happened : Type 0 where
  pub played : Played
  pub taken : Taken

-- all is as before
abbrev pub stays : Played → Taken → Happened
stays p taken = record { played = p; taken = taken }

-- an event happens in the group's world, after those before it
abbrev pub happened : Played → WorldEvent → Taken → Happened
happened p event taken = record {
  played = record {
    world = happens p.world event;
    stopped = p.stopped;
    events = p.events ++ event ∷ [];
  };
  taken = taken;
}

-- AT A NODE. If it is stopped nothing happens; a node that isn't there is bad.
abbrev pub is_node : Played → ℕ → Bool
is_node p n = nat_lt n (length p.stopped)

-- node n is stopped
abbrev pub is_stopped : Played → ℕ → Bool
is_stopped p n = slice_index_or p.stopped n false

-- this, if there is such a node and it isn't stopped
abbrev pub unless_stopped : Played → ℕ → Happened → Happened
unless_stopped p n h = if is_node p n then (if is_stopped p n then stays p Stopped else h) else stays p Bad

-- what node n makes of what comes to it, and the event by which that comes: it happens unless the
-- node refuses it
abbrev pub outcome_at : World → ℕ → Event → Outcome
outcome_at w n coming = local_step w.classes n (w.nodes n) coming

-- the event happens, unless the node refuses
abbrev pub unless_refused : Played → WorldEvent → Outcome → Option HandleError → Happened
unless_refused p event o None = happened p event (Sent (length o.sent))
unless_refused p event o (Some why) = stays p (Refused why)

-- what comes to node n
abbrev pub at_node : Played → WorldEvent → ℕ → Event → Happened
at_node p event n coming = let o =
    outcome_at p.world n coming in unless_stopped p n (unless_refused p event o o.refusal)

-- AT THE MONITOR.
abbrev pub makes : Played → List ℕ → Option MonitorError → Happened
makes p acting None = happened p (MapMade acting) (Made (made_of (next_map p.world.monitor acting)))
makes p acting (Some why) = stays p (MonitorRefused why)

-- the monitor activates an interval, unless it refuses
abbrev pub activates : Played → WorldEvent → Option MonitorError → Happened
activates p event None = happened p event (Sent 1)
activates p event (Some why) = stays p (MonitorRefused why)

-- a message at the monitor, which takes AskActivate alone
abbrev pub at_monitor : Played → WorldEvent → MessageKind → Happened
at_monitor p event (AskActivate interval) = activates p event (activation_refusal p.world.monitor interval)
at_monitor p event _ = stays p (Sent 0)

-- A DELIVERY of a message that was sent, to its receiver; a client does nothing with it.
abbrev pub deliver_to : Played → WorldEvent → Party → Message → Happened
deliver_to p event (ANode n) m = at_node p event n (AMessage m)
deliver_to p event TheMonitor m = at_monitor p event m.kind
deliver_to p event (AClient client) m = stays p (Sent 0)

-- by its number from 1
abbrev pub deliver : Played → ℕ → Option Packet → Happened
deliver p number None = stays p Bad
deliver p number (Some m) = deliver_to p (Delivered (number - 1)) m.receiver m.message

-- A MAP IS SEEN, by its number from 1.
abbrev pub see : Played → ℕ → ℕ → Option GroupMap → Happened
see p n number None = stays p Bad
see p n number (Some m) = at_node p (MapSeen n (number - 1)) n (AMap m)

-- NO EVENTS of the group: a node stops or goes on, is shown, or says by the lowest numbers of equal
-- messages what it would send again.
abbrev pub set_stopped : Played → ℕ → Bool → Happened
set_stopped p n b = if is_node p n
    then record {
      played = record { world = p.world; stopped = slice_set p.stopped n b; events = p.events };
      taken = Sent 0;
    } else stays p Bad

-- a node is shown
abbrev pub show : Played → ℕ → Happened
show p n = if is_node p n then stays p (Shown (shown_of n (p.world.nodes n))) else stays p Bad

-- what a node would send again
abbrev pub resend : Played → ℕ → Happened
resend p n = unless_stopped p n (stays p (Again (map (number_of p.world.sent) (unanswered n (p.world.nodes n)))))

-- WHAT A LINE COMES TO.
abbrev pub step : Played → Line → Happened
step p lines.Empty = stays p Skipped
step p (lines.Map acting) = makes p acting (map_refusal p.world.monitor acting)
step p (lines.See n epoch) = see p n epoch (numbered p.world.maps epoch)
step p (lines.Ask n r) = at_node p (RequestAt n r) n (ARequest r)
step p (lines.Deliver number) = deliver p number (numbered p.world.sent number)
step p (lines.Show n) = show p n
step p (lines.Stop n) = set_stopped p n true
step p (lines.Go n) = set_stopped p n false
step p (lines.Resend n) = resend p n
step p lines.Bad = stays p Bad
