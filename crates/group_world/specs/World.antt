-- From the world of one group to the agreed world. Rules has what a node does at an event, Monitor
-- what the monitor does.
use Rattle.std.specs.Prelude.{◌≡◌, ℕ, List, [], ◌∷◌, ◌++◌, ◌≤◌, length, ◌==◌, if◌then◌else◌, is_none, Option, Some}
use Rattle.std.specs.Prelude.{None, slice_get}
use Rattle.std.specs.List.{Contains, AllByRecursion}
use mathlib.Core.List.{IsPrefix}
use Rattle.pg_log.specs.Requests.{ClientRequest}
use Rattle.pg_log.specs.Log.{Classes, Legal, reply_at}
use Rattle.group_world.specs.Maps.{GroupMap}
use Rattle.group_world.specs.Node.{NodeState, fresh, committed_list}
use Rattle.group_world.specs.Rules.{local_step}
use Rattle.group_world.specs.Unanswered.{unanswered}
use Rattle.group_world.specs.Monitor.{MonitorState, no_maps, map_refusal, next_map, with_map, activation_refusal}
use Rattle.group_world.specs.Monitor.{with_activated}
use Rattle.group_world.specs.declared.status.Status.TheVariants.{Waiting, Asking}
use Rattle.group_world.specs.declared.party.Party.{Party}
use Rattle.group_world.specs.declared.party.Party.TheVariants.{Node as ANode, Monitor as TheMonitor, Client as AClient}
use Rattle.group_world.specs.declared.message.MessageKind.{MessageKind}
use Rattle.group_world.specs.declared.message.MessageKind.TheVariants.{Log as LogOf, Install, AskActivate, Activated}
use Rattle.group_world.specs.declared.message.MessageKind.TheVariants.{Reply as ReplyTo}
use Rattle.group_world.specs.declared.message.Message.{Message}
use Rattle.group_world.specs.declared.message.Packet.{Packet}
use Rattle.group_world.specs.declared.event.Event.{Event}
use Rattle.group_world.specs.declared.event.Event.TheVariants.{Request as ARequest, Map as AMap, Message as AMessage}

-- A WORLD has the loaded classes, every map that was made, the monitor, each node by its number,
-- and every message that was ever sent.
pub record World : Type 0 where
  pub classes : Classes
  pub maps : List GroupMap
  pub monitor : MonitorState
  pub nodes : ℕ → NodeState
  pub sent : List Packet

-- The opening world: no map, no message, and nodes that have nothing.
abbrev pub opening : Classes → World
opening classes = record { classes = classes; maps = []; monitor = no_maps; nodes = λ n. fresh; sent = [] }

-- WHAT MAY HAPPEN. A node gets a request. The monitor makes a map of an acting list. A node sees a
-- map, named by its place among all that were made. A message is delivered, named by its place
-- among all that were ever sent: so it may arrive late, again, out of order or never. Memory is
-- refused to an event.
pub data WorldEvent : Type 0 where
  RequestAt : (node : ℕ) → ClientRequest → WorldEvent
  MapMade : (acting : List ℕ) → WorldEvent
  MapSeen : (node place : ℕ) → WorldEvent
  Delivered : (place : ℕ) → WorldEvent
  WithoutMemory : WorldEvent → WorldEvent

-- STEPS.

-- the nodes, with one of them in another state
abbrev pub with_node : (ℕ → NodeState) → ℕ → NodeState → ℕ → NodeState
with_node nodes n s m = if m == n then s else nodes m

-- node n takes an event
abbrev pub at_node : World → ℕ → Event → World
at_node w n event = let o = local_step w.classes n (w.nodes n) event in
    record {
      classes = w.classes;
      maps = w.maps;
      monitor = w.monitor;
      nodes = with_node w.nodes n o.node;
      sent = w.sent ++ o.sent;
    }

-- the monitor makes a map, unless it refuses
abbrev pub make_map : World → List ℕ → World
make_map w acting = if is_none (map_refusal w.monitor acting)
    then record {
      classes = w.classes;
      maps = w.maps ++ next_map w.monitor acting ∷ [];
      monitor = with_map w.monitor acting;
      nodes = w.nodes;
      sent = w.sent;
    }
    else w

-- the monitor activates an interval and says so to the sender, each time, unless it refuses
abbrev pub activated_for : Party → ℕ → Packet
activated_for asker interval =
    record { receiver = asker; message = record { sender = TheMonitor; kind = Activated interval } }

-- the monitor activates an interval for a node that asks, unless it refuses
abbrev pub activate_for : World → Party → ℕ → World
activate_for w asker interval = if is_none (activation_refusal w.monitor interval)
    then record {
      classes = w.classes;
      maps = w.maps;
      monitor = with_activated w.monitor;
      nodes = w.nodes;
      sent = w.sent ++ activated_for asker interval ∷ [];
    }
    else w

-- the monitor takes a message
abbrev pub at_monitor : World → Party → MessageKind → World
at_monitor w sender (AskActivate interval) = activate_for w sender interval
at_monitor w sender _ = w

-- a message arrives at its receiver
abbrev pub deliver_to : World → Party → Message → World
deliver_to w (ANode n) m = at_node w n (AMessage m)
deliver_to w TheMonitor m = at_monitor w m.sender m.kind
deliver_to w (AClient client) m = w

-- a message arrives, if there is one of that place
abbrev pub deliver : World → Option Packet → World
deliver w None = w
deliver w (Some p) = deliver_to w p.receiver p.message

-- a node sees a map, if there is one of that place
abbrev pub show_map : World → ℕ → Option GroupMap → World
show_map w n None = w
show_map w n (Some m) = at_node w n (AMap m)

-- the world after an event
abbrev pub happens : World → WorldEvent → World
happens w (RequestAt n r) = at_node w n (ARequest r)
happens w (MapMade acting) = make_map w acting
happens w (MapSeen n place) = show_map w n (slice_get w.maps place)
happens w (Delivered place) = deliver w (slice_get w.sent place)
happens w (WithoutMemory event) = w

-- the world after a list of events
abbrev pub run : List WorldEvent → World → World
run [] w = w
run (event ∷ events) w = run events (happens w event)

-- BROUGHT REQUESTS are those of the request events.
abbrev pub brought_by : WorldEvent → List ClientRequest
brought_by (RequestAt n r) = r ∷ []
brought_by _ = []

-- those of a list of events, in order
abbrev pub brought : List WorldEvent → List ClientRequest
brought [] = []
brought (event ∷ events) = brought_by event ++ brought events

-- a request of that client and number is at the place
pub record StandsAt (list : List ClientRequest) (client number place : ℕ) : Type 0 where
  pub request : ClientRequest
  pub stands : slice_get list place ≡ Some request
  pub of_client : request.client ≡ client
  pub of_number : request.number ≡ number

-- A reply names a place of the list that has a request of that client and number, and carries the
-- answer there.
abbrev pub IsTrueOf : Classes → List ClientRequest → MessageKind → Type 0
IsTrueOf classes list (ReplyTo client number place answer) =
    StandsAt list client number place × (reply_at classes list place ≡ Some answer)
IsTrueOf classes list _ = Unit {0}

-- A list that the node would adopt or install begins with its committed list.
abbrev pub KeepsCommitted : NodeState → MessageKind → Type 0
KeepsCommitted s (LogOf interval list) = interval ≡ s.interval → s.status ≡ Asking → IsPrefix (committed_list s) list
KeepsCommitted s (Install m list) = m.interval ≡ s.interval → s.status ≡ Waiting → IsPrefix (committed_list s) list
KeepsCommitted s _ = Unit {0}

-- AN AGREED WORLD, after these events: there is one legal list such that each node's committed list
-- is a beginning of it, each of its requests was brought, and each reply ever sent is the answer to
-- its request in the list. Whatever a node would send again was sent before, and a list that it
-- would take begins with its committed list.
pub record IsAgreed (events : List WorldEvent) (w : World) : Type 0 where
  pub list : List ClientRequest
  pub legal : Legal w.classes list
  pub beginnings : (n : ℕ) → IsPrefix (committed_list (w.nodes n)) list
  pub brought : AllByRecursion (Contains (brought events)) list
  pub replied : (p : Packet) → Contains w.sent p → IsTrueOf w.classes list p.message.kind
  pub resent : (n : ℕ) → AllByRecursion (Contains w.sent) (unanswered n (w.nodes n))
  pub kept : (n : ℕ) (p : Packet) → Contains w.sent p → KeepsCommitted (w.nodes n) p.message.kind

-- AGREEMENT. Every list of events leads from the opening world to an agreed one.
abbrev pub AllAgree : Type 0
AllAgree = (classes : Classes) (events : List WorldEvent) → IsAgreed events (run events (opening classes))

-- each node's committed list in the first world begins that in the second
abbrev pub IsUncut : World → World → Type 0
IsUncut w v = (n : ℕ) → IsPrefix (committed_list (w.nodes n)) (committed_list (v.nodes n))

-- A further event cuts no committed list.
abbrev pub NoneIsCut : Type 0
NoneIsCut = (classes : Classes) (events : List WorldEvent) (event : WorldEvent) →
    IsUncut (run events (opening classes)) (happens (run events (opening classes)) event)

-- For one node: an event keeps the committed length within the log, and doesn't cut the committed
-- list.
abbrev pub StepsCutNothing : Type 0
StepsCutNothing = (classes : Classes) (n : ℕ) (s : NodeState) (event : Event) → s.committed ≤ length s.log →
    ((local_step classes n s event).node.committed ≤ length (local_step classes n s event).node.log)
    × IsPrefix (committed_list s) (committed_list (local_step classes n s event).node)
