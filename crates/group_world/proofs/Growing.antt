-- No event of a node cuts its committed list.
use Rattle.std.proofs.Common.{◌≡◌, ℕ, ◌+◌, ◌<◌, ◌≤◌, false, ◌&&◌, ◌||◌, not, eqb, ltb, List, [], ◌∷◌, ◌++◌, length, take, Option, Some, None, inl, inr, sym, ◌∙◌, refl, ap, subst, arith}
use Rattle.std.specs.Prelude.{is_none}
use Rattle.std.specs.List.{slice_get}
use Rattle.std.proofs.lemmas.List.{take-append-le, length-append, take-take}
use Rattle.std.proofs.lemmas.Bool.{ltb-true, lt-ltb, and_parts, or_parts, cond_both}
use mathlib.Core.List.{IsPrefix}
use Rattle.placement.specs.Placement.{has}
use Rattle.pg_log.specs.Requests.{ClientRequest}
use Rattle.pg_log.specs.Log.{Classes}
use Rattle.pg_log.specs.Refusals.{place_of, refusal}
use Rattle.pg_log.specs.declared.log_error.LogError.{LogError}
use Rattle.group_world.specs.Maps.{GroupMap, is_primary}
use Rattle.group_world.specs.Node.{NodeState, committed_list, Outcome, nothing, is_waiting, is_installed, is_asking, is_installing, is_active}
use Rattle.group_world.specs.Rules.{is_usable, adopt, move_to, arrive, would_forget, install_after, note_installed, least_of, commit, raised, append_unless, request_at, acknowledge, receive, local_step}
use Rattle.group_world.specs.Monitor.{map_refusal, activation_refusal}
use Rattle.group_world.specs.World.{World, opening, WorldEvent, RequestAt, MapMade, MapSeen, Delivered, WithoutMemory, at_node, at_monitor, deliver_to, deliver, show_map, happens, run, IsUncut, NoneIsCut, StepsCutNothing}
use Rattle.group_world.specs.declared.status.Status.TheVariants.{Installed}
use Rattle.group_world.specs.declared.party.Party.{Party}
use Rattle.group_world.specs.declared.party.Party.TheVariants.{Node as ANode, Monitor as TheMonitor, Client as AClient}
use Rattle.group_world.specs.declared.message.MessageKind.{MessageKind}
use Rattle.group_world.specs.declared.message.MessageKind.TheVariants.{Query, Log as LogOf, Install, Installed as InstalledIn, AskActivate, Activated, Rep, Ack, Reply as ReplyTo}
use Rattle.group_world.specs.declared.message.Message.{Message}
use Rattle.group_world.specs.declared.message.Packet.{Packet}
use Rattle.group_world.specs.declared.event.Event.{Event}
use Rattle.group_world.specs.declared.event.Event.TheVariants.{Request as ARequest, Map as AMap, Message as AMessage}
use Rattle.group_world.proofs.Lists.{prefix_refl, take_prefix, spot_cases}
use Rattle.group_world.proofs.LogFacts.{LogLaws}
use Rattle.group_world.proofs.Nodes.{NodeOk}
use Rattle.group_world.proofs.Steps.{Usable, usable_true}
use Rattle.group_world.proofs.Leading.{least_of_le}
use Rattle.group_world.proofs.Moving.{forgets_nothing, arrive_committed}
use Rattle.group_world.proofs.Reach.{Inv, inv_start}
use Rattle.group_world.proofs.Running.{inv_run}

pub record Grown (s t : NodeState) : Type 0 where
  pub point : s.committed ≤ t.committed
  pub same : take s.committed t.log ≡ take s.committed s.log
  pub within : t.committed ≤ length t.log

pub grown_prefix : (s t : NodeState) → Grown s t → IsPrefix (committed_list s) (committed_list t)
grown_prefix s t g =
    let e : take s.committed (take t.committed t.log) ≡ take s.committed s.log = take-take s.committed t.committed t.log g.point ∙ g.same in
    subst (λ x. IsPrefix x (take t.committed t.log)) e (take_prefix s.committed (take t.committed t.log))

pub grown_refl : (s : NodeState) → s.committed ≤ length s.log → Grown s s
grown_refl s w = record { point = omega arith; same = refl; within = w }

pub grown_move : (n : ℕ) (s : NodeState) (m : GroupMap) → s.committed ≤ length s.log → s.interval < m.interval → would_forget n s m ≡ false → Grown s (move_to n s m).node
grown_move n s m w lt free =
    let P : Outcome → Type 0 = λ o. Grown s o.node in
    cond_both (is_primary n m) _ _ P
    (λ p. cond_both (eqb m.prev 0) _ _ P
    (λ z.
    let cz : s.committed ≡ 0 = forgets_nothing n s m (lt-ltb _ _ lt) p z free in
    record { point = omega arith; same = ap (λ x. take x []) cz ∙ sym (ap (λ x. take x s.log) cz); within = omega arith })
    (λ z. record { point = omega arith; same = refl; within = w }))
    (λ p. cond_both (has n m.acting) _ _ P
    (λ t. record { point = omega arith; same = refl; within = w })
    (λ t. record { point = omega arith; same = refl; within = w }))

pub grown_arrive : (n : ℕ) (s : NodeState) (m : GroupMap) → s.committed ≤ length s.log → would_forget n s m ≡ false → Grown s (arrive n s m).node
grown_arrive n s m w free =
    cond_both (ltb s.interval m.interval) (move_to n s m) (nothing s) (λ (o : Outcome). Grown s o.node) (λ t. grown_move n s m w (ltb-true _ _ t) free) (λ t. grown_refl s w)

pub grown_commit : (cl : Classes) (n : ℕ) (s t : NodeState) → Grown s t → Grown s (commit cl n t).node
grown_commit cl n s t g =
    let p : s.committed ≤ t.committed = g.point in
    let q : t.committed ≤ length t.log = g.within in
    let l : least_of (length t.log) t.acked ≤ length t.log = least_of_le (length t.log) t.acked in
    record { point = omega arith; same = g.same; within = omega arith }

pub grown_push : (s t : NodeState) (r : ClientRequest) → s.committed ≤ length s.log → t.committed ≡ s.committed → t.log ≡ s.log ++ r ∷ [] → Grown s t
grown_push s t r w e f =
    let k : length (s.log ++ r ∷ []) ≡ length s.log + 1 = length-append s.log (r ∷ []) in
    let j : length t.log ≡ length (s.log ++ r ∷ []) = ap length f in
    record { point = omega arith; same = ap (take s.committed) f ∙ take-append-le s.committed s.log (r ∷ []) w; within = omega arith }

pub grown_unless : (cl : Classes) (n : ℕ) (s : NodeState) (r : ClientRequest) (o : Option LogError) → s.committed ≤ length s.log → Grown s (append_unless cl n s r o).node
grown_unless cl n s r None w =
    let t : NodeState = record s { log = s.log ++ r ∷ []; acked = raised n (length (s.log ++ r ∷ [])) s.members.acting s.acked } in
    grown_commit cl n s (record s { log = s.log ++ r ∷ []; acked = raised n (length (s.log ++ r ∷ [])) s.members.acting s.acked }) (grown_push s t r w refl refl)
grown_unless cl n s r (Some why) w = grown_refl s w

pub grown_request_at : (cl : Classes) (n : ℕ) (s : NodeState) (r : ClientRequest) (o : Option ℕ) → s.committed ≤ length s.log → Grown s (request_at cl n s r o).node
grown_request_at cl n s r (Some k) w = cond_both (ltb k s.committed) _ _ (λ (o : Outcome). Grown s o.node) (λ t. grown_refl s w) (λ t. grown_refl s w)
grown_request_at cl n s r None w = grown_unless cl n s r (refusal cl s.log r) w

pub grown_usable : (s t : NodeState) (xs : List ClientRequest) → Usable s xs → t.committed ≡ s.committed → t.log ≡ xs → Grown s t
grown_usable s t xs u e f =
    let w : s.committed ≤ length xs = u.within in
    let j : length t.log ≡ length xs = ap length f in
    record { point = omega arith; same = ap (take s.committed) f ∙ u.same; within = omega arith }

pub grown_install : (n : ℕ) (s : NodeState) (from : Party) (xs : List ClientRequest) (o : Outcome) → Usable s xs → o.node.committed ≡ s.committed → Grown s o.node → Grown s (install_after n from xs o).node
grown_install n s from xs o u e g =
    cond_both (is_waiting o.node.status) _ _ (λ (x : Outcome). Grown s x.node)
    (λ a. grown_usable s (record (o.node) { status = Installed; log = xs }) xs u e refl)
    (λ a. cond_both (is_installed o.node.status) _ _ (λ (x : Outcome). Grown s x.node) (λ b. g) (λ b. g))

pub grown_noted : (n : ℕ) (s : NodeState) (from : Party) (e : ℕ) → s.committed ≤ length s.log → Grown s (note_installed n s from e).node
grown_noted n s (ANode m) e w = cond_both ((eqb e s.interval) && (is_installing s.status && (has m s.members.acting && not (has m s.joined)))) _ _ (λ (o : Outcome). Grown s o.node)
    (λ t. record { point = omega arith; same = refl; within = w }) (λ t. grown_refl s w)
grown_noted n s TheMonitor e w = grown_refl s w
grown_noted n s (AClient c) e w = grown_refl s w

pub grown_acknowledged : (cl : Classes) (n : ℕ) (s : NodeState) (from : Party) (e k : ℕ) → s.committed ≤ length s.log → Grown s (acknowledge cl n s from e k).node
grown_acknowledged cl n s (ANode m) e k w = cond_both ((eqb e s.interval) && is_active s.status) _ _ (λ (o : Outcome). Grown s o.node)
    (λ t. grown_commit cl n s (record s { acked = raised m k s.members.acting s.acked }) (record { point = omega arith; same = refl; within = w })) (λ t. grown_refl s w)
grown_acknowledged cl n s TheMonitor e k w = grown_refl s w
grown_acknowledged cl n s (AClient c) e k w = grown_refl s w

pub grown_message : (cl : Classes) (n : ℕ) (s : NodeState) (from : Party) (m : MessageKind) → s.committed ≤ length s.log → Grown s (receive cl n s from m).node
grown_message cl n s from (Query m) w = cond_both (ltb m.interval s.interval || would_forget n s m) _ _ (λ (o : Outcome). Grown s o.node) (λ t. grown_refl s w) (λ t. grown_arrive n s m w (or_parts _ _ t).1)
grown_message cl n s from (LogOf e xs) w = cond_both ((eqb e s.interval) && (is_asking s.status && is_usable cl s xs)) _ _ (λ (o : Outcome). Grown s o.node)
    (λ t. grown_usable s (adopt n s xs).node xs (usable_true cl s xs w (and_parts _ _ (and_parts _ _ t).1).1) refl refl) (λ t. grown_refl s w)
grown_message cl n s from (Install m xs) w = cond_both (ltb m.interval s.interval || would_forget n s m) _ _ (λ (o : Outcome). Grown s o.node) (λ t. grown_refl s w)
    (λ t. cond_both (is_usable cl s xs) _ _ (λ (o : Outcome). Grown s o.node)
    (λ u. grown_install n s from xs (arrive n s m) (usable_true cl s xs w u) (arrive_committed n s m) (grown_arrive n s m w (or_parts _ _ t).1))
    (λ u. grown_refl s w))
grown_message cl n s from (InstalledIn e) w = grown_noted n s from e w
grown_message cl n s from (AskActivate e) w = grown_refl s w
grown_message cl n s from (Activated e) w = cond_both ((eqb e s.interval) && is_installing s.status) _ _ (λ (o : Outcome). Grown s o.node) (λ t. record { point = w; same = refl; within = omega arith }) (λ t. grown_refl s w)
grown_message cl n s from (Rep e k r) w = cond_both ((eqb e s.interval) && is_installed s.status) _ _ (λ (o : Outcome). Grown s o.node)
    (λ t. cond_both (ltb k (length s.log)) _ _ (λ (o : Outcome). Grown s o.node) (λ a. grown_refl s w)
    (λ a. cond_both ((eqb k (length s.log)) && is_none (refusal cl s.log r)) _ _ (λ (o : Outcome). Grown s o.node)
    (λ u. grown_push s (record s { log = s.log ++ r ∷ [] }) r w refl refl) (λ u. grown_refl s w)))
    (λ t. grown_refl s w)
grown_message cl n s from (Ack e k) w = grown_acknowledged cl n s from e k w
grown_message cl n s from (ReplyTo c number k a) w = grown_refl s w

pub grown_local : (cl : Classes) (n : ℕ) (s : NodeState) (e : Event) → s.committed ≤ length s.log → Grown s (local_step cl n s e).node
grown_local cl n s (ARequest r) w = cond_both (is_active s.status) _ _ (λ (o : Outcome). Grown s o.node) (λ t. grown_request_at cl n s r (place_of r.client r.number s.log) w)
    (λ t. cond_both (is_asking s.status || is_installing s.status) _ _ (λ (o : Outcome). Grown s o.node) (λ y. grown_refl s w) (λ y. grown_refl s w))
grown_local cl n s (AMap m) w = cond_both (would_forget n s m) _ _ (λ (o : Outcome). Grown s o.node) (λ t. grown_refl s w) (λ t. grown_arrive n s m w t)
grown_local cl n s (AMessage m) w = grown_message cl n s m.sender m.kind w

pub all_steps : StepsCutNothing
all_steps cl n s e w =
    let g : Grown s (local_step cl n s e).node = grown_local cl n s e w in
    (g.within, grown_prefix s (local_step cl n s e).node g)

pub uncut_at : (w : World) (n : ℕ) (e : Event) → ((k : ℕ) → (w.nodes k).committed ≤ length (w.nodes k).log) → IsUncut w (at_node w n e)
uncut_at w n e h k =
    elim (spot_cases k n (local_step w.classes n (w.nodes n) e).node (w.nodes k)) [
      | inl p ↦ subst (λ x. IsPrefix (committed_list (w.nodes k)) (committed_list x)) (sym p.1)
          (subst (λ x. IsPrefix (committed_list (w.nodes x)) (committed_list (local_step w.classes n (w.nodes n) e).node)) (sym p.0) (grown_prefix _ _ (grown_local w.classes n (w.nodes n) e (h n))))
      | inr p ↦ subst (λ x. IsPrefix (committed_list (w.nodes k)) (committed_list x)) (sym p.1) (prefix_refl (committed_list (w.nodes k)))
    ]

pub uncut_same : (w : World) → IsUncut w w
uncut_same w n = prefix_refl (committed_list (w.nodes n))

pub uncut_monitor : (w : World) (from : Party) (m : MessageKind) → IsUncut w (at_monitor w from m)
uncut_monitor w from (AskActivate e) = cond_both (is_none (activation_refusal w.monitor e)) _ w (IsUncut w) (λ t n. prefix_refl (committed_list (w.nodes n))) (λ t. uncut_same w)
uncut_monitor w from _ = uncut_same w

pub uncut_deliver : (w : World) (to : Party) (m : Message) → ((k : ℕ) → (w.nodes k).committed ≤ length (w.nodes k).log) → IsUncut w (deliver_to w to m)
uncut_deliver w (ANode n) m h = uncut_at w n (AMessage m) h
uncut_deliver w TheMonitor m h = uncut_monitor w m.sender m.kind
uncut_deliver w (AClient c) m h = uncut_same w

pub uncut_some : (w : World) (o : Option Packet) → ((k : ℕ) → (w.nodes k).committed ≤ length (w.nodes k).log) → IsUncut w (deliver w o)
uncut_some w None h = uncut_same w
uncut_some w (Some p) h = uncut_deliver w p.receiver p.message h

pub uncut_map : (w : World) (n : ℕ) (o : Option GroupMap) → ((k : ℕ) → (w.nodes k).committed ≤ length (w.nodes k).log) → IsUncut w (show_map w n o)
uncut_map w n None h = uncut_same w
uncut_map w n (Some m) h = uncut_at w n (AMap m) h

pub uncut_event : (w : World) (e : WorldEvent) → ((k : ℕ) → (w.nodes k).committed ≤ length (w.nodes k).log) → IsUncut w (happens w e)
uncut_event w (RequestAt n r) h = uncut_at w n (ARequest r) h
uncut_event w (MapMade ns) h = cond_both (is_none (map_refusal w.monitor ns)) _ w (IsUncut w) (λ t n. prefix_refl (committed_list (w.nodes n))) (λ t. uncut_same w)
uncut_event w (MapSeen n k) h = uncut_map w n (slice_get w.maps k) h
uncut_event w (Delivered k) h = uncut_some w (slice_get w.sent k) h
uncut_event w (WithoutMemory e) h = uncut_same w

pub all_uncut : LogLaws → NoneIsCut
all_uncut g cl es e =
    let i : Inv es (run es (opening cl)) = inv_run [] es (opening cl) (inv_start g cl) in
    uncut_event (run es (opening cl)) e (λ k. let o : NodeOk i.view k ((run es (opening cl)).nodes k) = i.nodes k in o.within)
