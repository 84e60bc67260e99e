-- The unanswered messages of a node were sent.
use Rattle.std.proofs.Common.{◌≡◌, ℕ, zero, suc, ◌+◌, Bool, true, ◌||◌, eqb, List, [], ◌∷◌, ◌++◌, drop, Option, Some, None, inl, inr, sym, ◌∙◌, refl, ap, subst, arith}
use Rattle.std.specs.Prelude.{is_none}
use Rattle.std.specs.List.{slice_get, Contains, AllByRecursion, AllZip}
use Rattle.std.proofs.lemmas.Bool.{eqb-false, or_parts, cond_both}
use Rattle.placement.specs.Placement.{has}
use Rattle.pg_log.specs.Requests.{ClientRequest}
use Rattle.pg_log.specs.Log.{Classes}
use Rattle.group_world.specs.Maps.{GroupMap, all_among}
use Rattle.group_world.specs.Node.{NodeState, Outcome, packet, to_all}
use Rattle.group_world.specs.Rules.{ask_if, local_step}
use Rattle.group_world.specs.Unanswered.{to_missing, reps_from, reps_unacked, unanswered_in, unanswered}
use Rattle.group_world.specs.Monitor.{map_refusal, activation_refusal}
use Rattle.group_world.specs.World.{World, opening, WorldEvent, RequestAt, MapMade, MapSeen, Delivered, WithoutMemory, at_node, at_monitor, deliver_to, deliver, show_map, happens, run}
use Rattle.group_world.specs.declared.status.Status.{Status}
use Rattle.group_world.specs.declared.status.Status.TheVariants.{Out, Waiting, Installed, Asking, Installing, Active}
use Rattle.group_world.specs.declared.party.Party.{Party}
use Rattle.group_world.specs.declared.party.Party.TheVariants.{Node as ANode, Monitor as TheMonitor, Client as AClient}
use Rattle.group_world.specs.declared.message.MessageKind.{MessageKind}
use Rattle.group_world.specs.declared.message.MessageKind.TheVariants.{Query, Install, AskActivate, Rep}
use Rattle.group_world.specs.declared.message.Message.{Message}
use Rattle.group_world.specs.declared.message.Packet.{Packet}
use Rattle.group_world.specs.declared.event.Event.{Event}
use Rattle.group_world.specs.declared.event.Event.TheVariants.{Request as ARequest, Map as AMap, Message as AMessage}
use Rattle.group_world.proofs.Lists.{has_head, has_tail, spot_cases}
use Rattle.group_world.proofs.Sending.{RepsSent, SentOk, sent_more, resends_local}

-- of every node of a world
abbrev pub AllSent : World → Type 0
AllSent w = (n : ℕ) → SentOk w.sent n (w.nodes n) (w.nodes n).status

pub all_sent_node : (w : World) (n : ℕ) (e : Event) → AllSent w → AllSent (at_node w n e)
all_sent_node w n e h k =
    let o : Outcome = local_step w.classes n (w.nodes n) e in
    elim (spot_cases k n (local_step w.classes n (w.nodes n) e).node (w.nodes k)) [
      | inl p ↦ subst (λ (x : NodeState). SentOk (w.sent ++ o.sent) k x x.status) (sym p.1) (subst (λ x. SentOk (w.sent ++ o.sent) x o.node o.node.status) (sym p.0) (resends_local w.classes w.sent n (w.nodes n) e (h n)))
      | inr p ↦ subst (λ (x : NodeState). SentOk (w.sent ++ o.sent) k x x.status) (sym p.1) (sent_more w.sent o.sent k (w.nodes k) (w.nodes k).status (h k))
    ]

pub all_sent_monitor : (w : World) (from : Party) (m : MessageKind) → AllSent w → AllSent (at_monitor w from m)
all_sent_monitor w from (AskActivate e) h = cond_both (is_none (activation_refusal w.monitor e)) _ w AllSent (λ t k. sent_more w.sent _ k (w.nodes k) (w.nodes k).status (h k)) (λ t. h)
all_sent_monitor w from _ h = h

pub all_sent_deliver : (w : World) (to : Party) (m : Message) → AllSent w → AllSent (deliver_to w to m)
all_sent_deliver w (ANode n) m h = all_sent_node w n (AMessage m) h
all_sent_deliver w TheMonitor m h = all_sent_monitor w m.sender m.kind h
all_sent_deliver w (AClient c) m h = h

pub all_sent_some : (w : World) (o : Option Packet) → AllSent w → AllSent (deliver w o)
all_sent_some w None h = h
all_sent_some w (Some p) h = all_sent_deliver w p.receiver p.message h

pub all_sent_map : (w : World) (n : ℕ) (o : Option GroupMap) → AllSent w → AllSent (show_map w n o)
all_sent_map w n None h = h
all_sent_map w n (Some m) h = all_sent_node w n (AMap m) h

pub all_sent_step : (w : World) (e : WorldEvent) → AllSent w → AllSent (happens w e)
all_sent_step w (RequestAt n r) h = all_sent_node w n (ARequest r) h
all_sent_step w (MapMade ns) h = cond_both (is_none (map_refusal w.monitor ns)) _ w AllSent (λ t. h) (λ t. h)
all_sent_step w (MapSeen n k) h = all_sent_map w n (slice_get w.maps k) h
all_sent_step w (Delivered k) h = all_sent_some w (slice_get w.sent k) h
all_sent_step w (WithoutMemory e) h = h

pub all_sent_run : (es : List WorldEvent) (w : World) → AllSent w → AllSent (run es w)
all_sent_run [] w h = h
all_sent_run (e ∷ es) w h = all_sent_run es (happens w e) (all_sent_step w e h)

-- from what holds for each status to the list of messages
pub all_contained_append : (sent ps qs : List Packet) → AllByRecursion (Contains sent) ps → AllByRecursion (Contains sent) qs → AllByRecursion (Contains sent) (ps ++ qs)
all_contained_append sent [] qs a b = b
all_contained_append sent (p ∷ ps) qs a b = (a.0, all_contained_append sent ps qs a.1 b)

pub to_all_contained : (sent : List Packet) (n : ℕ) (ns : List ℕ) (m : MessageKind) → ((k : ℕ) → has k ns ≡ true → Contains sent (packet n (ANode k) m)) → AllByRecursion (Contains sent) (to_all n ns m)
to_all_contained sent n [] m h = tt
to_all_contained sent n (k ∷ ks) m h = (h k (has_head k ks), to_all_contained sent n ks m (λ j a. h j (has_tail j k ks a)))

pub missing_contained : (sent : List Packet) (n : ℕ) (js ns : List ℕ) (m : MessageKind) → ((k : ℕ) → has k ns ≡ true → (k ≡ n → ⊥) → Contains sent (packet n (ANode k) m)) → AllByRecursion (Contains sent) (to_missing n js ns m)
missing_contained sent n js [] m h = tt
missing_contained sent n js (k ∷ ks) m h =
    let rest : AllByRecursion (Contains sent) (to_missing n js ks m) = missing_contained sent n js ks m (λ j a ne. h j (has_tail j k ks a) ne) in
    cond_both (has k js || eqb k n) _ _ (AllByRecursion (Contains sent)) (λ t. rest) (λ t. (h k (has_head k ks) (eqb-false k n (or_parts _ _ t).1), rest))

pub reps_contained : (sent : List Packet) (n k interval place : ℕ) (rs : List ClientRequest) → ((i : ℕ) (r : ClientRequest) → slice_get rs i ≡ Some r → Contains sent (packet n (ANode k) (Rep interval (place + i) r))) → AllByRecursion (Contains sent) (reps_from n k interval place rs)
reps_contained sent n k interval place [] h = tt
reps_contained sent n k interval place (r ∷ rs) h = (
  subst (λ x. Contains sent (packet n (ANode k) (Rep interval x r))) (omega arith) (h 0 r refl),
  reps_contained sent n k interval (suc place) rs (λ i x e. subst (λ y. Contains sent (packet n (ANode k) (Rep interval y x))) (omega arith) (h (suc i) x e)),
)

pub slice_get_suc : (a i : ℕ) (x : ClientRequest) (xs : List ClientRequest) → slice_get xs (a + i) ≡ slice_get (x ∷ xs) (suc a + i)
slice_get_suc a i x xs = let e : suc (a + i) ≡ suc a + i = omega arith in ap (slice_get (x ∷ xs)) e

pub slice_get_drop : (a i : ℕ) (xs : List ClientRequest) → slice_get (drop a xs) i ≡ slice_get xs (a + i)
slice_get_drop zero i xs = ap (slice_get xs) (omega arith)
slice_get_drop (suc a) i [] = refl
slice_get_drop (suc a) i (x ∷ xs) = slice_get_drop a i xs ∙ slice_get_suc a i x xs

pub unacked_contained : (sent : List Packet) (n : ℕ) (s : NodeState) (ns ks : List ℕ) → AllZip (RepsSent sent n s.interval s.log) ns ks → AllByRecursion (Contains sent) (reps_unacked n s ns ks)
unacked_contained sent n s [] [] h = tt
unacked_contained sent n s [] (k ∷ ks) h = tt
unacked_contained sent n s (m ∷ ms) [] h = tt
unacked_contained sent n s (m ∷ ms) (k ∷ ks) h =
    let rest : AllByRecursion (Contains sent) (reps_unacked n s ms ks) = unacked_contained sent n s ms ks h.1 in
    cond_both (eqb m n) _ _ (AllByRecursion (Contains sent)) (λ t. rest)
    (λ t. all_contained_append sent _ _ (reps_contained sent n m s.interval k (drop k s.log) (λ i r e. h.0 (eqb-false m n t) (k + i) r (omega arith) (sym (slice_get_drop k i s.log) ∙ e))) rest)

pub ask_contained : (sent : List Packet) (n : ℕ) (s : NodeState) (b : Bool) → (b ≡ true → Contains sent (packet n TheMonitor (AskActivate s.interval))) → AllByRecursion (Contains sent) (ask_if n s b)
ask_contained sent n s b h = cond_both b (packet n TheMonitor (AskActivate s.interval) ∷ []) [] (AllByRecursion (Contains sent)) (λ t. (h t, tt)) (λ t. tt)

pub unanswered_sent : (sent : List Packet) (n : ℕ) (s : NodeState) (st : Status) → SentOk sent n s st → AllByRecursion (Contains sent) (unanswered_in n s st)
unanswered_sent sent n s Out h = tt
unanswered_sent sent n s Waiting h = tt
unanswered_sent sent n s Installed h = tt
unanswered_sent sent n s Asking h = to_all_contained sent n s.members.prev_acting (Query s.members) h
unanswered_sent sent n s Installing h = all_contained_append sent _ _ (missing_contained sent n s.joined s.members.acting (Install s.members s.log) h.0) (ask_contained sent n s (all_among s.members.acting s.joined) h.1)
unanswered_sent sent n s Active h = unacked_contained sent n s s.members.acting s.acked h

pub all_resent : (cl : Classes) (es : List WorldEvent) (n : ℕ) → AllByRecursion (Contains (run es (opening cl)).sent) (unanswered n ((run es (opening cl)).nodes n))
all_resent cl es n = unanswered_sent (run es (opening cl)).sent n ((run es (opening cl)).nodes n) ((run es (opening cl)).nodes n).status (all_sent_run es (opening cl) (λ k. tt) n)
