-- Worlds that events lead to: one event more, and what holds of each.
use Rattle.std.proofs.Common.{◌≡◌, ◌≤◌, ◌==◌, ℕ, Bool, true, false, if◌then◌else◌, List, [], ◌∷◌, ◌++◌, length, Option, Some, None, refl, sym, ap, ◌∙◌, subst, arith, slice_get}
use Rattle.std.specs.Prelude.{is_none}
use Rattle.std.specs.List.{Contains}
use Rattle.pg_log.specs.Log.{Classes}
use Rattle.group_world.specs.Maps.{GroupMap}
use Rattle.group_world.specs.Node.{NodeState}
use Rattle.group_world.specs.Monitor.{map_refusal, next_map, with_map, activation_refusal}
use Rattle.group_world.specs.Rules.{local_step}
use Rattle.group_world.specs.World.{World, WorldEvent, RequestAt, MapMade, MapSeen, Delivered, WithoutMemory, opening, happens, run, at_node, at_monitor, deliver, deliver_to, show_map, StepsCutNothing, AllAgree, KeepsCommitted, IsAgreed}
use Rattle.group_world.specs.declared.party.Party.{Party}
use Rattle.group_world.specs.declared.party.Party.TheVariants.{Node as ANode, Monitor as TheMonitor, Client as AClient}
use Rattle.group_world.specs.declared.message.MessageKind.{MessageKind}
use Rattle.group_world.specs.declared.message.MessageKind.TheVariants.{Query, Log as LogOf, Install, Installed as InstalledIn, AskActivate, Activated, Rep, Ack, Reply as ReplyTo}
use Rattle.group_world.specs.declared.message.Message.{Message}
use Rattle.group_world.specs.declared.message.Packet.{Packet}
use Rattle.group_world.specs.declared.event.Event.{Event}
use Rattle.group_world.specs.declared.event.Event.TheVariants.{Request as ARequest, Map as AMap, Message as AMessage}
use Rattle.sim_world.specs.Step.{Played}
use Rattle.sim_world.specs.Agreed.{EventsLead, IsAgreedPlayed}

run_more : (events : List WorldEvent) (event : WorldEvent) (w : World) → run (events ++ event ∷ []) w ≡ happens (run events w) event
run_more [] event w = refl
run_more (e ∷ es) event w = run_more es event (happens w e)

-- one event more
pub leads_more : (classes : Classes) (p : Played) (event : WorldEvent) (v : World) → EventsLead classes p → happens p.world event ≡ v → v ≡ run (p.events ++ event ∷ []) (opening classes)
leads_more classes p event v leads is =
    sym is ∙ ap (λ (w : World). happens w event) leads ∙ sym (run_more p.events event (opening classes))

-- one of two, as a test says
pub either : {A : Type 0} (P : A → Type 0) (b : Bool) (s t : A) → P s → P t → P (if b then s else t)
either P true s t p q = p
either P false s t p q = q

-- Of each such world: its classes are those, and each node has committed no more than it has
-- logged.
pub record Sound (classes : Classes) (w : World) : Type 0 where
  pub named : w.classes ≡ classes
  pub within : (n : ℕ) → (w.nodes n).committed ≤ length (w.nodes n).log

sound_node : (classes : Classes) → StepsCutNothing → (w : World) (n : ℕ) (event : Event) → Sound classes w → Sound classes (at_node w n event)
sound_node classes cut w n event h = record {
  named = h.named;
  within = λ m. either (λ (s : NodeState). s.committed ≤ length s.log) (m == n) (local_step w.classes n (w.nodes n) event).node (w.nodes m)
      (cut w.classes n (w.nodes n) event (h.within n)).0 (h.within m);
}

sound_asked : (classes : Classes) (w : World) (sender : Party) (kind : MessageKind) → Sound classes w → Sound classes (at_monitor w sender kind)
sound_asked classes w sender (AskActivate interval) h =
    either (Sound classes) (is_none (activation_refusal w.monitor interval)) _ w (record { named = h.named; within = h.within }) h
sound_asked classes w sender (Query m) h = h
sound_asked classes w sender (LogOf interval list) h = h
sound_asked classes w sender (Install m list) h = h
sound_asked classes w sender (InstalledIn interval) h = h
sound_asked classes w sender (Activated interval) h = h
sound_asked classes w sender (Rep interval place r) h = h
sound_asked classes w sender (Ack interval k) h = h
sound_asked classes w sender (ReplyTo client number place answer) h = h

sound_to : (classes : Classes) → StepsCutNothing → (w : World) (receiver : Party) (m : Message) → Sound classes w → Sound classes (deliver_to w receiver m)
sound_to classes cut w (ANode n) m h = sound_node classes cut w n (AMessage m) h
sound_to classes cut w TheMonitor m h = sound_asked classes w m.sender m.kind h
sound_to classes cut w (AClient client) m h = h

sound_delivered : (classes : Classes) → StepsCutNothing → (w : World) (o : Option Packet) → Sound classes w → Sound classes (deliver w o)
sound_delivered classes cut w None h = h
sound_delivered classes cut w (Some p) h = sound_to classes cut w p.receiver p.message h

sound_seen : (classes : Classes) → StepsCutNothing → (w : World) (n : ℕ) (o : Option GroupMap) → Sound classes w → Sound classes (show_map w n o)
sound_seen classes cut w n None h = h
sound_seen classes cut w n (Some m) h = sound_node classes cut w n (AMap m) h

sound_after : (classes : Classes) → StepsCutNothing → (event : WorldEvent) (w : World) → Sound classes w → Sound classes (happens w event)
sound_after classes cut (RequestAt n r) w h = sound_node classes cut w n (ARequest r) h
sound_after classes cut (MapMade acting) w h =
    either (Sound classes) (is_none (map_refusal w.monitor acting))
    (record { classes = w.classes; maps = w.maps ++ next_map w.monitor acting ∷ []; monitor = with_map w.monitor acting; nodes = w.nodes; sent = w.sent })
    w (record { named = h.named; within = h.within }) h
sound_after classes cut (MapSeen n place) w h = sound_seen classes cut w n (slice_get w.maps place) h
sound_after classes cut (Delivered place) w h = sound_delivered classes cut w (slice_get w.sent place) h
sound_after classes cut (WithoutMemory event) w h = h

sound_run : (classes : Classes) → StepsCutNothing → (events : List WorldEvent) (w : World) → Sound classes w → Sound classes (run events w)
sound_run classes cut [] w h = h
sound_run classes cut (event ∷ events) w h = sound_run classes cut events (happens w event) (sound_after classes cut event w h)

pub sound : (classes : Classes) → StepsCutNothing → (p : Played) → EventsLead classes p → Sound classes p.world
sound classes cut p leads =
    subst (Sound classes) (sym leads) (sound_run classes cut p.events (opening classes) (record { named = refl; within = λ n. omega arith }))

-- and it is an agreed one
pub agreed_played : AllAgree → StepsCutNothing → (classes : Classes) (p : Played) → EventsLead classes p → IsAgreedPlayed classes p
agreed_played all cut classes p leads = record {
  leads = leads;
  named = (sound classes cut p leads).named;
  agreed = subst (λ (v : World). IsAgreed p.events v) (sym leads) (all classes p.events);
}

-- what a node would take keeps what it has committed
pub keeps : AllAgree → (classes : Classes) (p : Played) → EventsLead classes p → (n : ℕ) (q : Packet) → Contains p.world.sent q → KeepsCommitted (p.world.nodes n) q.message.kind
keeps all classes p leads n q there = (subst (λ (v : World). IsAgreed p.events v) (sym leads) (all classes p.events)).kept n q there
