-- Each event keeps what holds of the world.
use Rattle.std.proofs.Common.{◌≡◌, ℕ, List, [], ◌∷◌, ◌++◌, Option, Some, None, sym, ◌∙◌, refl, subst, append_assoc}
use Rattle.std.specs.List.{slice_get, Contains}
use Rattle.std.proofs.lemmas.List.{append-nil}
use Rattle.std.proofs.lemmas.List.Elements.{Contains-push}
use Rattle.group_world.specs.Maps.{GroupMap}
use Rattle.group_world.specs.World.{World, WorldEvent, RequestAt, MapMade, MapSeen, Delivered, WithoutMemory, at_monitor, deliver_to, deliver, show_map, happens, run, brought}
use Rattle.group_world.specs.declared.party.Party.{Party}
use Rattle.group_world.specs.declared.party.Party.TheVariants.{Node as ANode, Monitor as TheMonitor, Client as AClient}
use Rattle.group_world.specs.declared.message.MessageKind.{MessageKind}
use Rattle.group_world.specs.declared.message.MessageKind.TheVariants.{AskActivate}
use Rattle.group_world.specs.declared.message.Message.{Message}
use Rattle.group_world.specs.declared.message.Packet.{Packet}
use Rattle.group_world.specs.declared.event.Event.TheVariants.{Request as ARequest, Map as AMap, Message as AMessage}
use Rattle.group_world.proofs.Nodes.{MessageOk}
use Rattle.group_world.proofs.Leading.{kept_request}
use Rattle.group_world.proofs.Moving.{kept_learn_map}
use Rattle.group_world.proofs.Reach.{Inv, brought_more, inv_ask, inv_node, kept_message, packet_at}
use Rattle.group_world.proofs.Monitoring.{inv_activate, inv_map}

pub inv_monitor : (past : List WorldEvent) (w : World) (from : Party) (m : MessageKind) → (i : Inv past w) → MessageOk i.view from TheMonitor m → Inv past (at_monitor w from m)
inv_monitor past w from (AskActivate e) i h = inv_activate past w from e i h
inv_monitor past w from _ i h = i

pub inv_deliver : (past : List WorldEvent) (w : World) (to : Party) (m : Message) → (i : Inv past w) → MessageOk i.view m.sender to m.kind → Inv past (deliver_to w to m)
inv_deliver past w (ANode n) m i h = inv_node past w n (AMessage m) i (kept_message i.view n (w.nodes n) m.sender m.kind i.sound (i.nodes n) h)
inv_deliver past w TheMonitor m i h = inv_monitor past w m.sender m.kind i h
inv_deliver past w (AClient c) m i h = i

pub inv_deliver_some : (past : List WorldEvent) (w : World) (k : ℕ) (o : Option Packet) → Inv past w → slice_get w.sent k ≡ o → Inv past (deliver w o)
inv_deliver_some past w k None i h = i
inv_deliver_some past w k (Some p) i h = inv_deliver past w p.receiver p.message i (packet_at i.view w.sent k p i.sent h)

pub inv_show_map : (past : List WorldEvent) (w : World) (n k : ℕ) (o : Option GroupMap) → Inv past w → slice_get w.maps k ≡ o → Inv past (show_map w n o)
inv_show_map past w n k None i h = i
inv_show_map past w n k (Some m) i h = inv_node past w n (AMap m) i (kept_learn_map i.view n (w.nodes n) m i.sound (i.nodes n) (i.maps k m h))

-- each event keeps it
pub inv_step : (past : List WorldEvent) (w : World) (e : WorldEvent) → Inv past w → Inv (past ++ e ∷ []) (happens w e)
inv_step past w (RequestAt n r) h =
    let i : Inv (past ++ RequestAt n r ∷ []) w = inv_ask past (RequestAt n r) w h in
    inv_node (past ++ RequestAt n r ∷ []) w n (ARequest r) i
    (kept_request i.view n (w.nodes n) r i.sound (i.nodes n) (subst (λ x. Contains x r) (sym (i.asked ∙ brought_more past (RequestAt n r))) (Contains-push (brought past) r)))
inv_step past w (MapMade ns) h = inv_map (past ++ MapMade ns ∷ []) w ns (inv_ask past (MapMade ns) w h)
inv_step past w (MapSeen n k) h = inv_show_map (past ++ MapSeen n k ∷ []) w n k (slice_get w.maps k) (inv_ask past (MapSeen n k) w h) refl
inv_step past w (Delivered k) h = inv_deliver_some (past ++ Delivered k ∷ []) w k (slice_get w.sent k) (inv_ask past (Delivered k) w h) refl
inv_step past w (WithoutMemory e) h = inv_ask past (WithoutMemory e) w h

pub inv_run : (past es : List WorldEvent) (w : World) → Inv past w → Inv (past ++ es) (run es w)
inv_run past [] w h = subst (λ x. Inv x w) (sym (append-nil past)) h
inv_run past (e ∷ es) w h = subst (λ x. Inv x (run es (happens w e))) (append_assoc past (e ∷ []) es) (inv_run (past ++ e ∷ []) es (happens w e) (inv_step past w e h))
