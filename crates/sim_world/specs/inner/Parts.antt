-- The parts of a played world, and what a line does to them. Nothing here need be believed: it is
-- proved to be what a line does in the group's world (`Holds`).
use Rattle.std.specs.Prelude.{◌≡◌, Result, Ok, Err, ℕ, zero, suc, ◌-◌, nat_lt, Bool, List, [], ◌∷◌, ◌++◌, length, drop}
use Rattle.std.specs.Prelude.{map, Option, Some, None, if◌then◌else◌, slice_get, slice_set, slice_index_or, replicate}
use Rattle.std.specs.Prelude.{true, false, codes}
use Rattle.pg_log.specs.Log.{Classes}
use Rattle.std.specs.Option.{option_map}
use Rattle.carried.specs.Carried.{message_of}
use Rattle.carried.specs.declared.message.CarriedKind.{CarriedKind}
use Rattle.carried.specs.declared.message.CarriedKind.TheVariants.{AskActivate}
use Rattle.carried.specs.declared.message.CarriedMessage.{CarriedMessage}
use Rattle.group_world.specs.Maps.{GroupMap}
use Rattle.group_world.specs.Node.{Outcome, fresh}
use Rattle.group_world.specs.Rules.{local_step}
use Rattle.group_world.specs.Unanswered.{unanswered}
use Rattle.group_world.specs.Monitor.{MonitorState, no_maps, map_refusal, next_map, with_map, activation_refusal}
use Rattle.group_world.specs.Monitor.{with_activated}
use Rattle.group_world.specs.World.{activated_for}
use Rattle.group_world.specs.declared.monitor_error.MonitorError.{MonitorError}
use Rattle.group_world.specs.declared.handle_error.HandleError.{HandleError}
use Rattle.group_world.specs.declared.party.Party.{Party}
use Rattle.group_world.specs.declared.party.Party.TheVariants.{Node as ANode, Monitor as TheMonitor, Client as AClient}
use Rattle.group_world.specs.declared.message.Packet.{Packet}
use Rattle.group_world.specs.declared.event.Event.{Event}
use Rattle.group_world.specs.declared.event.Event.TheVariants.{Request as ARequest, Map as AMap, Message as AMessage}
use Rattle.peering.specs.Numbered.{NumberedNode, IsDone}
use Rattle.sim_world.specs.Kept.{kept_line}
use Rattle.sim_world.specs.Lines.{numbered}
use Rattle.sim_world.specs.Texts.{again_text, made_of, said_text, shown_of}
use Rattle.sim_world.specs.declared.line.Line.{Line}
use Rattle.sim_world.specs.declared.line.Line.TheVariants as lines
use Rattle.sim_world.specs.declared.taken.Taken.{Taken}
use Rattle.sim_world.specs.declared.taken.Taken.TheVariants.{Bad, Skipped, Stopped, Sent, Refused, MonitorRefused, Made}
use Rattle.sim_world.specs.declared.taken.Taken.TheVariants.{Shown, Again}
use Rattle.sim_world.specs.declared.deliver.Delivery.{Delivery}
use Rattle.sim_world.specs.declared.deliver.Delivery.TheVariants.{ToNode, ToMonitor, ToClient}
use Rattle.sim_world.specs.declared.kept.KeptMessage.{KeptMessage}
use Rattle.sim_world.specs.Keeping.{kept_as}
use Rattle.sim_world.specs.inner.Buckets.{again_number}

pub record Parts : Type 0 where
  pub maps : List GroupMap
  pub monitor : MonitorState
  pub nodes : List NumberedNode
  pub stopped : List Bool
  pub sent : List KeptMessage

-- the nodes of the numbers below one; they have learned nothing
abbrev pub fresh_nodes : ℕ → List NumberedNode
fresh_nodes zero = []
fresh_nodes (suc k) = fresh_nodes k ++ record { number = k; state = fresh } ∷ []

abbrev pub first_parts : Parts
first_parts = record { maps = []; monitor = no_maps; nodes = fresh_nodes 16; stopped = replicate 16 false; sent = [] }

-- the parts after a line, and its result
pub record Turn : Type 0 where
  pub parts : Parts
  pub taken : Taken

abbrev pub rests : Parts → Taken → Turn
rests w taken = record { parts = w; taken = taken }

-- MESSAGES AS THEY ARE KEPT
abbrev pub committed_at : Option NumberedNode → ℕ
committed_at None = 0
committed_at (Some node) = node.state.committed

abbrev pub committed_of : List NumberedNode → Party → ℕ
committed_of nodes (ANode n) = committed_at (slice_get nodes n)
committed_of nodes TheMonitor = 0
committed_of nodes (AClient client) = 0

abbrev pub kept : List NumberedNode → Packet → KeptMessage
kept nodes p = kept_as (committed_of nodes p.message.sender) (committed_of nodes p.receiver) p

-- THE NODES, by their numbers
abbrev pub has_node : Parts → ℕ → Bool
has_node w n = nat_lt n (length w.nodes)

abbrev pub nth_node : List NumberedNode → ℕ → NumberedNode
nth_node nodes n = slice_index_or nodes n (record { number = n; state = fresh })

abbrev pub has_stopped : Parts → ℕ → Bool
has_stopped w n = slice_index_or w.stopped n false

-- AN EVENT AT A NODE
abbrev pub after_outcome : Parts → ℕ → Outcome → Parts
after_outcome w n o =
    let nodes = slice_set w.nodes n (record { number = (nth_node w.nodes n).number; state = o.node }) in
    record {
      maps = w.maps;
      monitor = w.monitor;
      nodes = nodes;
      stopped = w.stopped;
      sent = w.sent ++ map (kept nodes) o.sent;
    }

abbrev pub with_outcome : Parts → ℕ → Outcome → Option HandleError → Turn
with_outcome w n o None = record { parts = after_outcome w n o; taken = Sent (length o.sent) }
with_outcome w n o (Some why) = rests w (Refused why)

abbrev pub local_outcome : Classes → Parts → ℕ → Event → Outcome
local_outcome classes w n event = local_step classes (nth_node w.nodes n).number (nth_node w.nodes n).state event

abbrev pub handled : Classes → Parts → ℕ → Event → Turn
handled classes w n event = with_outcome w n (local_outcome classes w n event) (local_outcome classes w n event).refusal

abbrev pub unless_held : Parts → ℕ → Turn → Turn
unless_held w n turn = if has_node w n then (if has_stopped w n then rests w Stopped else turn) else rests w Bad

-- none if a list was lost
abbrev pub arrived : Classes → Parts → ℕ → Option Event → Turn
arrived classes w n None = rests w (Sent 0)
arrived classes w n (Some event) = handled classes w n event

abbrev pub arrives : Classes → Parts → ℕ → Option Event → Turn
arrives classes w n coming = unless_held w n (arrived classes w n coming)

-- THE MONITOR
abbrev pub map_made : Parts → List ℕ → Option MonitorError → Turn
map_made w acting None = record {
  parts = record {
    maps = w.maps ++ next_map w.monitor acting ∷ [];
    monitor = with_map w.monitor acting;
    nodes = w.nodes;
    stopped = w.stopped;
    sent = w.sent;
  };
  taken = Made (made_of (next_map w.monitor acting));
}
map_made w acting (Some why) = rests w (MonitorRefused why)

abbrev pub activated : Parts → Party → ℕ → Option MonitorError → Turn
activated w asker interval None = record {
  parts = record {
    maps = w.maps;
    monitor = with_activated w.monitor;
    nodes = w.nodes;
    stopped = w.stopped;
    sent = w.sent ++ kept w.nodes (activated_for asker interval) ∷ [];
  };
  taken = Sent 1;
}
activated w asker interval (Some why) = rests w (MonitorRefused why)

-- DELIVERY
abbrev pub asked_of : CarriedKind → Option ℕ
asked_of (AskActivate interval) = Some interval
asked_of _ = None

abbrev pub delivery_to : List NumberedNode → Party → CarriedMessage → Delivery
delivery_to nodes (ANode n) m = ToNode n (message_of (nth_node nodes n).state.log m)
delivery_to nodes TheMonitor m = ToMonitor m.sender (asked_of m.kind)
delivery_to nodes (AClient client) m = ToClient

abbrev pub delivery_of : List NumberedNode → KeptMessage → Delivery
delivery_of nodes k = delivery_to nodes k.receiver k.message

abbrev pub at_monitor : Parts → Party → Option ℕ → Turn
at_monitor w asker None = rests w (Sent 0)
at_monitor w asker (Some interval) = activated w asker interval (activation_refusal w.monitor interval)

abbrev pub delivered : Classes → Parts → Delivery → Turn
delivered classes w (ToNode n coming) = arrives classes w n (option_map AMessage coming)
delivered classes w (ToMonitor asker interval) = at_monitor w asker interval
delivered classes w ToClient = rests w (Sent 0)

abbrev pub delivered_at : Classes → Parts → Option KeptMessage → Turn
delivered_at classes w None = rests w Bad
delivered_at classes w (Some k) = delivered classes w (delivery_of w.nodes k)

-- MAPS AND QUESTIONS
abbrev pub seen : Classes → Parts → ℕ → Option GroupMap → Turn
seen classes w n None = rests w Bad
seen classes w n (Some m) = arrives classes w n (Some (AMap m))

abbrev pub with_stopped : Parts → ℕ → Bool → Parts
with_stopped w n b =
    record { maps = w.maps; monitor = w.monitor; nodes = w.nodes; stopped = slice_set w.stopped n b; sent = w.sent }

abbrev pub stop_set : Parts → ℕ → Bool → Turn
stop_set w n b = if has_node w n then record { parts = with_stopped w n b; taken = Sent 0 } else rests w Bad

abbrev pub shown : Parts → ℕ → Turn
shown w n = if has_node w n then rests w (Shown (shown_of n (nth_node w.nodes n).state)) else rests w Bad

abbrev pub sent_again : Parts → ℕ → Turn
sent_again w n =
    rests w (Again (map (again_number w.sent) (unanswered (nth_node w.nodes n).number (nth_node w.nodes n).state)))

abbrev pub resent : Parts → ℕ → Turn
resent w n = unless_held w n (sent_again w n)

-- A LINE
abbrev pub turn : Classes → Parts → Line → Turn
turn classes w lines.Empty = rests w Skipped
turn classes w (lines.Map acting) = map_made w acting (map_refusal w.monitor acting)
turn classes w (lines.See n epoch) = seen classes w n (numbered w.maps epoch)
turn classes w (lines.Ask n r) = arrives classes w n (Some (ARequest r))
turn classes w (lines.Deliver number) = delivered_at classes w (numbered w.sent number)
turn classes w (lines.Show n) = shown w n
turn classes w (lines.Stop n) = stop_set w n true
turn classes w (lines.Go n) = stop_set w n false
turn classes w (lines.Resend n) = resent w n
turn classes w lines.Bad = rests w Bad

-- a node took an event, or refused it
abbrev pub IsTaken : NumberedNode → NumberedNode → Result (List Packet) HandleError → Outcome → Type 0
IsTaken old new (Ok sent) o = IsDone old new sent o
IsTaken old new (Err why) o = (new ≡ old) × (o.refusal ≡ Some why)

-- THE TEXTS, from the messages as they are kept
abbrev pub kept_lines : ℕ → List KeptMessage → List ℕ
kept_lines number [] = []
kept_lines number (k ∷ ks) = kept_line number k.receiver k.message ++ kept_lines (suc number) ks

abbrev pub kept_text : ℕ → List KeptMessage → List ℕ
kept_text number [] = codes "nothing\n"
kept_text number (k ∷ ks) = kept_lines number (k ∷ ks)

abbrev pub last_kept : List KeptMessage → ℕ → List ℕ
last_kept sent count = kept_text (suc (length sent - count)) (drop (length sent - count) sent)

abbrev pub ended : List ℕ → List ℕ
ended text = text ++ codes "\n"

abbrev pub kept_taken : List KeptMessage → Taken → List ℕ
kept_taken sent Bad = []
kept_taken sent Skipped = []
kept_taken sent Stopped = ended (said_text Stopped)
kept_taken sent (Sent count) = last_kept sent count
kept_taken sent (Refused why) = ended (said_text (Refused why))
kept_taken sent (MonitorRefused why) = ended (said_text (MonitorRefused why))
kept_taken sent (Made m) = ended (said_text (Made m))
kept_taken sent (Shown s) = ended (said_text (Shown s))
kept_taken sent (Again numbers) = again_text numbers
