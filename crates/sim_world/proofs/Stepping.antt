-- What the code does to the parts of a played world is what a line does in the group's world.
use Rattle.std.proofs.Common.{◌≡◌, ◌≢◌, ◌≤◌, ◌<◌, ◌-◌, ◌+◌, ◌==◌, ◌&&◌, ℕ, zero, suc, min, Bool, true, false, if◌then◌else◌, List, [], ◌∷◌, ◌++◌, length, map, Option, Some, None, refl, sym, ap, ◌∙◌, subst, arith, slice_get, get_or, set, get_or-set_other}
use Rattle.std.proofs.lemmas.Bool.{eq-eqb, eqb-true, ltb-false, ltb-true, le-ltb, false≢true}
use Rattle.std.proofs.lemmas.Grind.{get_or-set_at}
use Rattle.std.proofs.lemmas.List.{length-set, length-take-le, length-append}
use Rattle.std.specs.Prelude.{is_none, nat_lt}
use Rattle.std.specs.Option.{option_map}
use mathlib.Core.List.{IsPrefix}
use Rattle.pg_log.specs.Requests.{ClientRequest}
use Rattle.pg_log.specs.Log.{Classes}
use Rattle.replication.specs.Packed.{packed, spread, CommittedIsEnough}
use Rattle.carried.specs.Carried.{carried_as, message_of}
use Rattle.group_world.specs.Maps.{GroupMap}
use Rattle.group_world.specs.Node.{NodeState, Outcome, committed_list, nothing, is_asking, fresh}
use Rattle.group_world.specs.Monitor.{MonitorState, map_refusal, next_map, activation_refusal, with_activated, with_map}
use Rattle.group_world.specs.Rules.{local_step, adopt, is_usable}
use Rattle.group_world.specs.Unanswered.{unanswered}
use Rattle.group_world.specs.World.{World, WorldEvent, RequestAt, MapMade, MapSeen, Delivered, happens, at_node, activate_for, activated_for, deliver, deliver_to, show_map, with_node, StepsCutNothing, NoneIsCut, AllAgree, KeepsCommitted}
use Rattle.group_world.specs.declared.status.Status.{Status}
use Rattle.group_world.specs.declared.status.Status.TheVariants.{Out, Waiting, Installed, Asking, Installing, Active}
use Rattle.group_world.specs.declared.monitor_error.MonitorError.{MonitorError}
use Rattle.group_world.specs.declared.handle_error.HandleError.{HandleError}
use Rattle.group_world.specs.declared.party.Party.{Party}
use Rattle.group_world.specs.declared.party.Party.TheVariants.{Node as ANode, Monitor as TheMonitor, Client as AClient}
use Rattle.group_world.specs.declared.message.MessageKind.{MessageKind}
use Rattle.group_world.specs.declared.message.MessageKind.TheVariants.{Query, Log as LogOf, Install, Installed as InstalledIn, AskActivate, Activated, Rep, Ack, Reply as ReplyTo}
use Rattle.group_world.specs.declared.message.Message.{Message}
use Rattle.group_world.specs.declared.message.Packet.{Packet}
use Rattle.group_world.specs.declared.event.Event.{Event}
use Rattle.group_world.specs.declared.event.Event.TheVariants.{Request as ARequest, Map as AMap, Message as AMessage}
use Rattle.peering.specs.Numbered.{NumberedNode}
use Rattle.sim_world.specs.Lines.{numbered}
use Rattle.sim_world.specs.Texts.{made_of, shown_of}
use Rattle.sim_world.specs.declared.line.Line.{Line}
use Rattle.sim_world.specs.declared.line.Line.TheVariants as lines
use Rattle.sim_world.specs.declared.taken.Taken.{Taken}
use Rattle.sim_world.specs.declared.taken.Taken.TheVariants.{Bad, Skipped, Stopped, Sent, Refused, MonitorRefused, Made, Shown, Again}
use Rattle.sim_world.specs.Holds.{HasCommitted, Holds, IsKept, IsStep}
use Rattle.sim_world.specs.Step.{Played, Happened, beginning, stays, happened, unless_stopped, unless_refused, outcome_at, makes, activates, see, set_stopped, show, resend, step}
use Rattle.sim_world.specs.Step as steps
use Rattle.sim_world.specs.declared.kept.KeptMessage.{KeptMessage}
use Rattle.sim_world.specs.inner.Parts.{Parts, Turn, rests, committed_at, committed_of, nth_node, after_outcome, with_outcome, local_outcome, handled, unless_held, arrived, arrives, map_made, activated, delivery_to, at_monitor, delivered, delivered_at, seen, with_stopped, stop_set, shown, sent_again, resent, turn, fresh_nodes, first_parts}
use Rattle.sim_world.specs.inner.Buckets.{again_number}
use Rattle.sim_world.proofs.Going.{goes_on}
use Rattle.sim_world.proofs.Reaching.{Sound, sound, leads_more, keeps}
use Rattle.sim_world.proofs.Messages.{Both, both_numbered, numbered_at, contains_at, more_kept, still_kept, numbers_among}

-- the laws of the crates below
pub record Laws : Type 0 where
  pub agreed : AllAgree
  pub kept : NoneIsCut
  pub uncut : StepsCutNothing
  pub packed : CommittedIsEnough

-- the code did what the line does
pub record Fits (classes : Classes) (t : Turn) (h : Happened) : Type 0 where
  pub held : Holds classes t.parts h.played
  pub came : t.taken ≡ h.taken

pub fits_stays : (classes : Classes) (w : Parts) (p : Played) → Holds classes w p → (taken : Taken) → Fits classes (rests w taken) (stays p taken)
fits_stays classes w p held taken = record { held = held; came = refl }

-- NODES BY NUMBER

-- at a node that exists and runs
fits_running : (classes : Classes) (w : Parts) (p : Played) → Holds classes w p → (t : Turn) (h : Happened) (b d : Bool) → (b ≡ true → Fits classes t h)
    → Fits classes (if b then (if d then rests w Stopped else t) else rests w Bad) (if b then (if d then stays p Stopped else h) else stays p Bad)
fits_running classes w p held t h true true f = fits_stays classes w p held Stopped
fits_running classes w p held t h true false f = f refl
fits_running classes w p held t h false d f = fits_stays classes w p held Bad

fits_unless : (classes : Classes) (w : Parts) (p : Played) → Holds classes w p → (n : ℕ) (t : Turn) (h : Happened) → (n < 16 → Fits classes t h)
    → Fits classes (unless_held w n t) (unless_stopped p n h)
fits_unless classes w p held n t h f =
    let there : nat_lt n (length w.nodes) ≡ nat_lt n (length p.stopped) = ap (nat_lt n) (held.count ∙ sym held.flags) in
    let flag : get_or w.stopped n false ≡ get_or p.stopped n false = ap (λ (bs : List Bool). get_or bs n false) held.stopped in
    let low : nat_lt n (length p.stopped) ≡ true → n < 16 = λ e. subst (λ (l : ℕ). n < l) held.flags (ltb-true n (length p.stopped) e) in
    let T : Bool → Bool → Turn = λ b d. if b then (if d then rests w Stopped else t) else rests w Bad in
    subst (λ (b : Bool). Fits classes (T b (get_or w.stopped n false)) (unless_stopped p n h)) (sym there)
    (subst (λ (d : Bool). Fits classes (T (nat_lt n (length p.stopped)) d) (unless_stopped p n h)) (sym flag)
    (fits_running classes w p held t h (nat_lt n (length p.stopped)) (get_or p.stopped n false) (λ e. f (low e))))

fits_both : (classes : Classes) (w : Parts) (p : Played) → Holds classes w p → (t : Turn) (h : Happened) (b : Bool) → (b ≡ true → Fits classes t h)
    → Fits classes (if b then t else rests w Bad) (if b then h else stays p Bad)
fits_both classes w p held t h true f = f refl
fits_both classes w p held t h false f = fits_stays classes w p held Bad

fits_there : (classes : Classes) (w : Parts) (p : Played) → Holds classes w p → (n : ℕ) (t : Turn) (h : Happened) → (n < 16 → Fits classes t h)
    → Fits classes (if nat_lt n (length w.nodes) then t else rests w Bad) (if nat_lt n (length p.stopped) then h else stays p Bad)
fits_there classes w p held n t h f =
    let there : nat_lt n (length w.nodes) ≡ nat_lt n (length p.stopped) = ap (nat_lt n) (held.count ∙ sym held.flags) in
    let low : nat_lt n (length p.stopped) ≡ true → n < 16 = λ e. subst (λ (l : ℕ). n < l) held.flags (ltb-true n (length p.stopped) e) in
    subst (λ (b : Bool). Fits classes (if b then t else rests w Bad) (if nat_lt n (length p.stopped) then h else stays p Bad)) (sym there)
    (fits_both classes w p held t h (nat_lt n (length p.stopped)) (λ e. f (low e)))

-- HOW MUCH A NODE HAS COMMITTED
at_most : (nodes : List NumberedNode) (k : ℕ) (d : NumberedNode) → committed_at (slice_get nodes k) ≤ (get_or nodes k d).state.committed
at_most [] k d = omega arith
at_most (x ∷ xs) zero d = omega arith
at_most (x ∷ xs) (suc k) d = at_most xs k d

none_past : (nodes : List NumberedNode) (k : ℕ) → length nodes ≤ k → committed_at (slice_get nodes k) ≡ 0
none_past [] k h = refl
none_past (x ∷ xs) zero h = absurd (omega (arith, h))
none_past (x ∷ xs) (suc k) h = none_past xs k (omega (arith, h))

node_has : (list : List NumberedNode) (next : ℕ → NodeState) → length list ≡ 16
    → ((n : ℕ) → n < 16 → nth_node list n ≡ record { number = n; state = next n }) → (k : ℕ) (b : Bool) → nat_lt k 16 ≡ b
    → committed_at (slice_get list k) ≤ (next k).committed
node_has list next count nodes k true e =
    let is = nodes k (ltb-true k 16 e) in
    subst (λ (x : NumberedNode). committed_at (slice_get list k) ≤ x.state.committed) is (at_most list k (record { number = k; state = fresh }))
node_has list next count nodes k false e =
    let high : 16 ≤ k = ltb-false k 16 e in
    let none = none_past list k (omega (arith, count, high)) in
    omega (arith, none)

pub has_committed : (list : List NumberedNode) (next : ℕ → NodeState) → length list ≡ 16
    → ((n : ℕ) → n < 16 → nth_node list n ≡ record { number = n; state = next n }) → (receiver : Party) → HasCommitted next receiver (committed_of list receiver)
has_committed list next count nodes (ANode k) = node_has list next count nodes k (nat_lt k 16) refl
has_committed list next count nodes TheMonitor = tt
has_committed list next count nodes (AClient client) = tt

length_prefix : (xs ys : List ClientRequest) → IsPrefix xs ys → length xs ≤ length ys
length_prefix xs ys p = let e : length xs + length p.0 ≡ length ys = sym (length-append xs p.0) ∙ ap (λ (zs : List ClientRequest). length zs) p.1 in omega (arith, e)

-- an event takes nothing back of what a node has committed
grown_at : StepsCutNothing → (classes : Classes) (n : ℕ) (s : NodeState) (event : Event) → s.committed ≤ length s.log → s.committed ≤ (local_step classes n s event).node.committed
grown_at uncut classes n s event within =
    let t = (local_step classes n s event).node in
    let law = uncut classes n s event within in
    let less = length_prefix (committed_list s) (committed_list t) law.1 in
    let a : length (committed_list s) ≡ s.committed = length-take-le s.committed s.log within in
    let b : length (committed_list t) ≡ t.committed = length-take-le t.committed t.log law.0 in
    omega (arith, less, a, b)

grown_node : StepsCutNothing → (classes : Classes) (w : World) → Sound classes w → (n : ℕ) (event : Event) (m : ℕ) (b : Bool) → (m == n) ≡ b
    → (w.nodes m).committed ≤ (if b then (local_step w.classes n (w.nodes n) event).node else w.nodes m).committed
grown_node uncut classes w ok n event m true e =
    let same : m ≡ n = eqb-true m n e in
    subst (λ (k : ℕ). (w.nodes k).committed ≤ (local_step w.classes n (w.nodes n) event).node.committed) (sym same)
    (grown_at uncut w.classes n (w.nodes n) event (ok.within n))
grown_node uncut classes w ok n event m false e = omega arith

-- AN EVENT AT A NODE
node_after : (w : Parts) (next : ℕ → NodeState) (n : ℕ) (s : NodeState) → n < length w.nodes → (nth_node w.nodes n).number ≡ n → (m : ℕ) (b : Bool) → (m == n) ≡ b
    → nth_node w.nodes m ≡ record { number = m; state = next m }
    → nth_node (set w.nodes n (record { number = (nth_node w.nodes n).number; state = s })) m ≡ record { number = m; state = if b then s else next m }
node_after w next n s low number m true e is =
    let same : m ≡ n = eqb-true m n e in
    get_or-set_at w.nodes n m (record { number = (nth_node w.nodes n).number; state = s }) (record { number = m; state = fresh }) same low
    ∙ ap (λ (k : ℕ). record { number = k; state = s }) (number ∙ sym same)
node_after w next n s low number m false e is =
    let apart : m ≢ n = λ same. false≢true (sym e ∙ eq-eqb m n same) in
    get_or-set_other w.nodes n m (record { number = (nth_node w.nodes n).number; state = s }) (record { number = m; state = fresh }) apart ∙ is

holds_after : Laws → (classes : Classes) (w : Parts) (p : Played) → Holds classes w p → (n : ℕ) → n < 16 → (event : WorldEvent) (coming : Event)
    → happens p.world event ≡ at_node p.world n coming
    → Holds classes (after_outcome w n (outcome_at p.world n coming)) (record { world = happens p.world event; stopped = p.stopped; events = p.events ++ event ∷ [] })
holds_after laws classes w p held n low event coming is =
    let o = outcome_at p.world n coming in
    let ok = sound classes laws.uncut p held.reached in
    let list = set w.nodes n (record { number = (nth_node w.nodes n).number; state = o.node }) in
    let next = with_node p.world.nodes n o.node in
    let inside : n < length w.nodes = subst (λ (l : ℕ). n < l) (sym held.count) low in
    let number : (nth_node w.nodes n).number ≡ n = ap (λ (x : NumberedNode). x.number) (held.nodes n low) in
    let count : length list ≡ 16 = length-set w.nodes n (record { number = (nth_node w.nodes n).number; state = o.node }) ∙ held.count in
    let nodes : (m : ℕ) → m < 16 → nth_node list m ≡ record { number = m; state = next m } =
    λ m h. node_after w p.world.nodes n o.node inside number m (m == n) refl (held.nodes m h) in
    subst (λ (v : World). Holds classes (after_outcome w n o) (record { world = v; stopped = p.stopped; events = p.events ++ event ∷ [] })) (sym is)
    (record {
      reached = leads_more classes p event (at_node p.world n coming) held.reached is;
      maps = held.maps;
      monitor = held.monitor;
      count = count;
      nodes = nodes;
      stopped = held.stopped;
      flags = held.flags;
      sent = more_kept next list w.sent p.world.sent o.sent
          (still_kept p.world.nodes next (λ m. grown_node laws.uncut classes p.world ok n coming m (m == n) refl) w.sent p.world.sent held.sent)
          (λ q. has_committed list next count nodes q.receiver);
    })

fits_outcome : Laws → (classes : Classes) (w : Parts) (p : Played) → Holds classes w p → (n : ℕ) → n < 16 → (event : WorldEvent) (coming : Event)
    → happens p.world event ≡ at_node p.world n coming → (r : Option HandleError)
    → Fits classes (with_outcome w n (outcome_at p.world n coming) r) (unless_refused p event (outcome_at p.world n coming) r)
fits_outcome laws classes w p held n low event coming is None = record { held = holds_after laws classes w p held n low event coming is; came = refl }
fits_outcome laws classes w p held n low event coming is (Some why) = fits_stays classes w p held (Refused why)

-- the node takes an event by which it does the same as by another
fits_handled : Laws → (classes : Classes) (w : Parts) (p : Played) → Holds classes w p → (n : ℕ) → n < 16 → (event : WorldEvent) (taken coming : Event)
    → happens p.world event ≡ at_node p.world n coming → local_step classes n (p.world.nodes n) taken ≡ local_step classes n (p.world.nodes n) coming
    → Fits classes (handled classes w n taken) (unless_refused p event (outcome_at p.world n coming) (outcome_at p.world n coming).refusal)
fits_handled laws classes w p held n low event taken coming is same =
    let ok = sound classes laws.uncut p held.reached in
    let o = outcome_at p.world n coming in
    let all : local_outcome classes w n taken ≡ o =
    ap (λ (x : NumberedNode). local_step classes x.number x.state taken) (held.nodes n low) ∙ same
    ∙ ap (λ (c : Classes). local_step c n (p.world.nodes n) coming) (sym ok.named) in
    subst (λ (x : Outcome). Fits classes (with_outcome w n x x.refusal) (unless_refused p event o o.refusal)) (sym all)
    (fits_outcome laws classes w p held n low event coming is o.refusal)

fits_at_node : Laws → (classes : Classes) (w : Parts) (p : Played) → Holds classes w p → (n : ℕ) (event : WorldEvent) (coming : Event)
    → happens p.world event ≡ at_node p.world n coming → Fits classes (arrives classes w n (Some coming)) (steps.at_node p event n coming)
fits_at_node laws classes w p held n event coming is =
    fits_unless classes w p held n (handled classes w n coming) (unless_refused p event (outcome_at p.world n coming) (outcome_at p.world n coming).refusal)
    (λ low. fits_handled laws classes w p held n low event coming coming is refl)

-- A LIST ARRIVES WHOLE, if the node would take it
record Arrives (classes : Classes) (n : ℕ) (s : NodeState) (m : Message) (coming : Option Message) : Type 0 where
  message : Message
  comes : coming ≡ Some message
  same : local_step classes n s (AMessage message) ≡ local_step classes n s (AMessage m)

asks : (status : Status) → is_asking status ≡ true → status ≡ Asking
asks Out e = absurd (false≢true e)
asks Waiting e = absurd (false≢true e)
asks Installed e = absurd (false≢true e)
asks Asking e = refl
asks Installing e = absurd (false≢true e)
asks Active e = absurd (false≢true e)

-- a list that isn't asked for is ignored, whatever is in it
adopts : (classes : Classes) (n : ℕ) (s : NodeState) (given list : List ClientRequest) (b c : Bool) → (b ≡ true → c ≡ true → given ≡ list)
    → (if b && (c && is_usable classes s given) then adopt n s given else nothing s) ≡ (if b && (c && is_usable classes s list) then adopt n s list else nothing s)
adopts classes n s given list true true same = ap (λ (l : List ClientRequest). if is_usable classes s l then adopt n s l else nothing s) (same refl refl)
adopts classes n s given list true false same = refl
adopts classes n s given list false c same = refl

list_arrives : Laws → (classes : Classes) (n : ℕ) (s : NodeState) (sender : Party) (interval : ℕ) (list : List ClientRequest) (committed reported : ℕ)
    → s.committed ≤ length s.log → reported ≤ s.committed → KeepsCommitted s (LogOf interval list)
    → Arrives classes n s (record { sender = sender; kind = LogOf interval list }) (message_of s.log (carried_as committed reported (record { sender = sender; kind = LogOf interval list })))
list_arrives laws classes n s sender interval list committed reported within enough keeps =
    let given = spread s.log (packed list reported) in
    let whole : Message = record { sender = sender; kind = LogOf interval given } in
    let long : nat_lt (length s.log) (min reported (length list)) ≡ false = le-ltb (length s.log) (min reported (length list)) (omega (arith, within, enough)) in
    let same : (interval == s.interval) ≡ true → is_asking s.status ≡ true → given ≡ list =
    λ e f. (laws.packed s.log list s.committed reported within enough (keeps (eqb-true interval s.interval e) (asks s.status f))).same in
    record {
      message = whole;
      comes = ap (λ (b : Bool). option_map (λ (k : MessageKind). record { sender = sender; kind = k }) (if b then None else Some (LogOf interval given))) long;
      same = adopts classes n s given list (interval == s.interval) (is_asking s.status) same;
    }

as_sent : (classes : Classes) (n : ℕ) (s : NodeState) (m : Message) → Arrives classes n s m (Some m)
as_sent classes n s m = record { message = m; comes = refl; same = refl }

arrives_whole : Laws → (classes : Classes) (n : ℕ) (s : NodeState) (sender : Party) (kind : MessageKind) (committed reported : ℕ)
    → s.committed ≤ length s.log → reported ≤ s.committed → KeepsCommitted s kind
    → Arrives classes n s (record { sender = sender; kind = kind }) (message_of s.log (carried_as committed reported (record { sender = sender; kind = kind })))
arrives_whole laws classes n s sender (LogOf interval list) committed reported within enough keeps =
    list_arrives laws classes n s sender interval list committed reported within enough keeps
arrives_whole laws classes n s sender (Query m) committed reported within enough keeps = as_sent classes n s _
arrives_whole laws classes n s sender (Install m list) committed reported within enough keeps = as_sent classes n s _
arrives_whole laws classes n s sender (InstalledIn interval) committed reported within enough keeps = as_sent classes n s _
arrives_whole laws classes n s sender (AskActivate interval) committed reported within enough keeps = as_sent classes n s _
arrives_whole laws classes n s sender (Activated interval) committed reported within enough keeps = as_sent classes n s _
arrives_whole laws classes n s sender (Rep interval place r) committed reported within enough keeps = as_sent classes n s _
arrives_whole laws classes n s sender (Ack interval k) committed reported within enough keeps = as_sent classes n s _
arrives_whole laws classes n s sender (ReplyTo client number place answer) committed reported within enough keeps = as_sent classes n s _

-- A DELIVERY TO A NODE
fits_arrived : Laws → (classes : Classes) (w : Parts) (p : Played) → Holds classes w p → (n : ℕ) → n < 16 → (event : WorldEvent) (m : Message) (committed reported : ℕ)
    → reported ≤ (p.world.nodes n).committed → KeepsCommitted (p.world.nodes n) m.kind → happens p.world event ≡ at_node p.world n (AMessage m)
    → Fits classes (arrived classes w n (option_map AMessage (message_of (nth_node w.nodes n).state.log (carried_as committed reported m))))
    (unless_refused p event (outcome_at p.world n (AMessage m)) (outcome_at p.world n (AMessage m)).refusal)
fits_arrived laws classes w p held n low event m committed reported enough keeps is =
    let s = p.world.nodes n in
    let ok = sound classes laws.uncut p held.reached in
    let all = arrives_whole laws classes n s m.sender m.kind committed reported (ok.within n) enough keeps in
    let h = unless_refused p event (outcome_at p.world n (AMessage m)) (outcome_at p.world n (AMessage m)).refusal in
    subst (λ (x : NumberedNode). Fits classes (arrived classes w n (option_map AMessage (message_of x.state.log (carried_as committed reported m)))) h) (sym (held.nodes n low))
    (subst (λ (c : Option Message). Fits classes (arrived classes w n (option_map AMessage c)) h) (sym all.comes)
    (fits_handled laws classes w p held n low event (AMessage all.message) (AMessage m) is all.same))

-- THE MONITOR
fits_activated : (classes : Classes) (w : Parts) (p : Played) → Holds classes w p → (event : WorldEvent) (asker : Party) (interval : ℕ)
    → happens p.world event ≡ activate_for p.world asker interval → (r : Option MonitorError) → activation_refusal p.world.monitor interval ≡ r
    → Fits classes (activated w asker interval r) (activates p event r)
fits_activated classes w p held event asker interval is None e =
    let v : World = record { classes = p.world.classes; maps = p.world.maps; monitor = with_activated p.world.monitor; nodes = p.world.nodes; sent = p.world.sent ++ activated_for asker interval ∷ [] } in
    let after : happens p.world event ≡ v = is ∙ ap (λ (r : Option MonitorError). if is_none r then v else p.world) e in
    let t = activated w asker interval None in
    record {
      held = subst (λ (x : World). Holds classes t.parts (record { world = x; stopped = p.stopped; events = p.events ++ event ∷ [] })) (sym after) (record {
        reached = leads_more classes p event v held.reached after;
        maps = held.maps;
        monitor = ap with_activated held.monitor;
        count = held.count;
        nodes = held.nodes;
        stopped = held.stopped;
        flags = held.flags;
        sent = more_kept p.world.nodes w.nodes w.sent p.world.sent (activated_for asker interval ∷ []) held.sent
            (λ q. has_committed w.nodes p.world.nodes held.count held.nodes q.receiver);
      });
      came = refl;
    }
fits_activated classes w p held event asker interval is (Some why) e = fits_stays classes w p held (MonitorRefused why)

fits_asked : (classes : Classes) (w : Parts) (p : Played) → Holds classes w p → (event : WorldEvent) (asker : Party) (interval : ℕ)
    → happens p.world event ≡ activate_for p.world asker interval
    → Fits classes (at_monitor w asker (Some interval)) (activates p event (activation_refusal p.world.monitor interval))
fits_asked classes w p held event asker interval is =
    subst (λ (m : MonitorState). Fits classes (activated w asker interval (activation_refusal m interval)) (activates p event (activation_refusal p.world.monitor interval))) (sym held.monitor)
    (fits_activated classes w p held event asker interval is (activation_refusal p.world.monitor interval) refl)

fits_monitor : (classes : Classes) (w : Parts) (p : Played) → Holds classes w p → (event : WorldEvent) (sender : Party) (kind : MessageKind) (committed reported : ℕ)
    → happens p.world event ≡ deliver_to p.world TheMonitor (record { sender = sender; kind = kind })
    → Fits classes (delivered classes w (delivery_to w.nodes TheMonitor (carried_as committed reported (record { sender = sender; kind = kind })))) (steps.at_monitor p event kind)
fits_monitor classes w p held event sender (AskActivate interval) committed reported is = fits_asked classes w p held event sender interval is
fits_monitor classes w p held event sender (Query m) committed reported is = fits_stays classes w p held (Sent 0)
fits_monitor classes w p held event sender (LogOf interval list) committed reported is = fits_stays classes w p held (Sent 0)
fits_monitor classes w p held event sender (Install m list) committed reported is = fits_stays classes w p held (Sent 0)
fits_monitor classes w p held event sender (InstalledIn interval) committed reported is = fits_stays classes w p held (Sent 0)
fits_monitor classes w p held event sender (Activated interval) committed reported is = fits_stays classes w p held (Sent 0)
fits_monitor classes w p held event sender (Rep interval place r) committed reported is = fits_stays classes w p held (Sent 0)
fits_monitor classes w p held event sender (Ack interval k) committed reported is = fits_stays classes w p held (Sent 0)
fits_monitor classes w p held event sender (ReplyTo client number place answer) committed reported is = fits_stays classes w p held (Sent 0)

-- A DELIVERY
fits_to : Laws → (classes : Classes) (w : Parts) (p : Played) → Holds classes w p → (event : WorldEvent) (receiver : Party) (m : Message) (committed reported : ℕ)
    → HasCommitted p.world.nodes receiver reported → ((n : ℕ) → KeepsCommitted (p.world.nodes n) m.kind) → happens p.world event ≡ deliver_to p.world receiver m
    → Fits classes (delivered classes w (delivery_to w.nodes receiver (carried_as committed reported m))) (steps.deliver_to p event receiver m)
fits_to laws classes w p held event (ANode n) m committed reported enough keeps is =
    fits_unless classes w p held n (arrived classes w n (option_map AMessage (message_of (nth_node w.nodes n).state.log (carried_as committed reported m))))
    (unless_refused p event (outcome_at p.world n (AMessage m)) (outcome_at p.world n (AMessage m)).refusal)
    (λ low. fits_arrived laws classes w p held n low event m committed reported enough (keeps n) is)
fits_to laws classes w p held event TheMonitor m committed reported enough keeps is = fits_monitor classes w p held event m.sender m.kind committed reported is
fits_to laws classes w p held event (AClient client) m committed reported enough keeps is = fits_stays classes w p held (Sent 0)

fits_kept : Laws → (classes : Classes) (w : Parts) (p : Played) → Holds classes w p → (number : ℕ) (k : KeptMessage) (q : Packet)
    → slice_get p.world.sent (number - 1) ≡ Some q → IsKept p.world.nodes k q
    → Fits classes (delivered_at classes w (Some k)) (steps.deliver p number (Some q))
fits_kept laws classes w p held number k q at is =
    let h = steps.deliver p number (Some q) in
    subst (λ (x : KeptMessage). Fits classes (delivered_at classes w (Some x)) h) (sym is.same)
    (fits_to laws classes w p held (Delivered (number - 1)) q.receiver q.message is.committed is.reported is.enough
    (λ n. keeps laws.agreed classes p held.reached n q (contains_at p.world.sent (number - 1) q at))
    (ap (deliver p.world) at))

fits_both_kept : Laws → (classes : Classes) (w : Parts) (p : Played) → Holds classes w p → (number : ℕ) (o : Option KeptMessage) (q : Option Packet)
    → numbered p.world.sent number ≡ q → Both p.world.nodes o q → Fits classes (delivered_at classes w o) (steps.deliver p number q)
fits_both_kept laws classes w p held number None None at both = fits_stays classes w p held Bad
fits_both_kept laws classes w p held number None (Some q) at both = absurd both
fits_both_kept laws classes w p held number (Some k) None at both = absurd both
fits_both_kept laws classes w p held number (Some k) (Some q) at both =
    fits_kept laws classes w p held number k q (numbered_at p.world.sent number q at) both

fits_delivered : Laws → (classes : Classes) (w : Parts) (p : Played) → Holds classes w p → (number : ℕ)
    → Fits classes (delivered_at classes w (numbered w.sent number)) (steps.deliver p number (numbered p.world.sent number))
fits_delivered laws classes w p held number =
    fits_both_kept laws classes w p held number (numbered w.sent number) (numbered p.world.sent number) refl
    (both_numbered p.world.nodes w.sent p.world.sent number held.sent)

-- MAPS
fits_made : (classes : Classes) (w : Parts) (p : Played) → Holds classes w p → (acting : List ℕ) (r : Option MonitorError) → map_refusal p.world.monitor acting ≡ r
    → Fits classes (map_made w acting r) (makes p acting r)
fits_made classes w p held acting None e =
    let v : World = record { classes = p.world.classes; maps = p.world.maps ++ next_map p.world.monitor acting ∷ []; monitor = with_map p.world.monitor acting; nodes = p.world.nodes; sent = p.world.sent } in
    let after : happens p.world (MapMade acting) ≡ v = ap (λ (r : Option MonitorError). if is_none r then v else p.world) e in
    let t = map_made w acting None in
    record {
      held = subst (λ (x : World). Holds classes t.parts (record { world = x; stopped = p.stopped; events = p.events ++ MapMade acting ∷ [] })) (sym after) (record {
        reached = leads_more classes p (MapMade acting) v held.reached after;
        maps = ap (λ (ms : List GroupMap). ms ++ next_map w.monitor acting ∷ []) held.maps ∙ ap (λ (m : MonitorState). p.world.maps ++ next_map m acting ∷ []) held.monitor;
        monitor = ap (λ (m : MonitorState). with_map m acting) held.monitor;
        count = held.count;
        nodes = held.nodes;
        stopped = held.stopped;
        flags = held.flags;
        sent = held.sent;
      });
      came = ap (λ (m : MonitorState). Made (made_of (next_map m acting))) held.monitor;
    }
fits_made classes w p held acting (Some why) e = fits_stays classes w p held (MonitorRefused why)

fits_map : (classes : Classes) (w : Parts) (p : Played) → Holds classes w p → (acting : List ℕ)
    → Fits classes (map_made w acting (map_refusal w.monitor acting)) (makes p acting (map_refusal p.world.monitor acting))
fits_map classes w p held acting =
    subst (λ (m : MonitorState). Fits classes (map_made w acting (map_refusal m acting)) (makes p acting (map_refusal p.world.monitor acting))) (sym held.monitor)
    (fits_made classes w p held acting (map_refusal p.world.monitor acting) refl)

fits_seen : Laws → (classes : Classes) (w : Parts) (p : Played) → Holds classes w p → (n epoch : ℕ) (o : Option GroupMap) → numbered p.world.maps epoch ≡ o
    → Fits classes (seen classes w n o) (see p n epoch o)
fits_seen laws classes w p held n epoch None e = fits_stays classes w p held Bad
fits_seen laws classes w p held n epoch (Some m) e =
    fits_at_node laws classes w p held n (MapSeen n (epoch - 1)) (AMap m) (ap (show_map p.world n) (numbered_at p.world.maps epoch m e))

fits_see : Laws → (classes : Classes) (w : Parts) (p : Played) → Holds classes w p → (n epoch : ℕ)
    → Fits classes (seen classes w n (numbered w.maps epoch)) (see p n epoch (numbered p.world.maps epoch))
fits_see laws classes w p held n epoch =
    subst (λ (ms : List GroupMap). Fits classes (seen classes w n (numbered ms epoch)) (see p n epoch (numbered p.world.maps epoch))) (sym held.maps)
    (fits_seen laws classes w p held n epoch (numbered p.world.maps epoch) refl)

-- NO EVENTS
fits_set : (classes : Classes) (w : Parts) (p : Played) → Holds classes w p → (n : ℕ) (b : Bool) → Fits classes (stop_set w n b) (set_stopped p n b)
fits_set classes w p held n b =
    fits_there classes w p held n (record { parts = with_stopped w n b; taken = Sent 0 }) (record { played = record { world = p.world; stopped = set p.stopped n b; events = p.events }; taken = Sent 0 })
    (λ low. record {
      held = record {
        reached = held.reached;
        maps = held.maps;
        monitor = held.monitor;
        count = held.count;
        nodes = held.nodes;
        stopped = ap (λ (bs : List Bool). set bs n b) held.stopped;
        flags = length-set p.stopped n b ∙ held.flags;
        sent = held.sent;
      };
      came = refl;
    })

fits_shown : (classes : Classes) (w : Parts) (p : Played) → Holds classes w p → (n : ℕ) → Fits classes (shown w n) (show p n)
fits_shown classes w p held n =
    fits_there classes w p held n (rests w (Shown (shown_of n (nth_node w.nodes n).state))) (stays p (Shown (shown_of n (p.world.nodes n))))
    (λ low. record { held = held; came = ap (λ (x : NumberedNode). Shown (shown_of n x.state)) (held.nodes n low) })

fits_resent : (classes : Classes) (w : Parts) (p : Played) → Holds classes w p → (n : ℕ) → Fits classes (resent w n) (resend p n)
fits_resent classes w p held n =
    fits_unless classes w p held n (sent_again w n) _
    (λ low. record {
      held = held;
      came = ap (λ (x : NumberedNode). Again (map (again_number w.sent) (unanswered x.number x.state))) (held.nodes n low)
          ∙ ap Again (numbers_among p.world.nodes w.sent p.world.sent (unanswered n (p.world.nodes n)) held.sent);
    })

-- A LINE
pub fits : Laws → (classes : Classes) (w : Parts) (p : Played) → Holds classes w p → (line : Line) → Fits classes (turn classes w line) (step p line)
fits laws classes w p held lines.Empty = fits_stays classes w p held Skipped
fits laws classes w p held (lines.Map acting) = fits_map classes w p held acting
fits laws classes w p held (lines.See n epoch) = fits_see laws classes w p held n epoch
fits laws classes w p held (lines.Ask n r) = fits_at_node laws classes w p held n (RequestAt n r) (ARequest r) refl
fits laws classes w p held (lines.Deliver number) = fits_delivered laws classes w p held number
fits laws classes w p held (lines.Show n) = fits_shown classes w p held n
fits laws classes w p held (lines.Stop n) = fits_set classes w p held n true
fits laws classes w p held (lines.Go n) = fits_set classes w p held n false
fits laws classes w p held (lines.Resend n) = fits_resent classes w p held n
fits laws classes w p held lines.Bad = fits_stays classes w p held Bad

-- the same, by what the contracts say that the code did
pub line_done : Laws → (classes : Classes) (old new : Parts) (taken : Taken) (line : Line) (p : Played) → Holds classes old p
    → record { parts = new; taken = taken } ≡ turn classes old line → IsStep classes new p line taken
line_done laws classes old new taken line p held is =
    let all : Fits classes (record { parts = new; taken = taken }) (step p line) =
    subst (λ (t : Turn). Fits classes t (step p line)) (sym is) (fits laws classes old p held line) in
    record { held = all.held; came = all.came; goes_on = goes_on laws.kept classes p line held.reached }

-- BEFORE THE FIRST LINE
length_fresh : (k : ℕ) → length (fresh_nodes k) ≡ k
length_fresh zero = refl
length_fresh (suc k) = length-append (fresh_nodes k) (record { number = k; state = fresh } ∷ []) ∙ omega (arith, length_fresh k)

one_behind : (xs : List NumberedNode) (y d : NumberedNode) (n : ℕ) → get_or xs n d ≡ d → (n ≡ length xs → y ≡ d) → get_or (xs ++ y ∷ []) n d ≡ d
one_behind [] y d zero h e = e refl
one_behind [] y d (suc n) h e = refl
one_behind (x ∷ xs) y d zero h e = h
one_behind (x ∷ xs) y d (suc n) h e = one_behind xs y d n h (λ s. e (ap suc s))

fresh_node : (k n : ℕ) → nth_node (fresh_nodes k) n ≡ record { number = n; state = fresh }
fresh_node zero n = refl
fresh_node (suc k) n =
    one_behind (fresh_nodes k) (record { number = k; state = fresh }) (record { number = n; state = fresh }) n (fresh_node k n)
    (λ s. ap (λ (i : ℕ). record { number = i; state = fresh }) (sym (s ∙ length_fresh k)))

held_first : (classes : Classes) → Holds classes first_parts (beginning classes)
held_first classes = record {
  reached = refl;
  maps = refl;
  monitor = refl;
  count = length_fresh 16;
  nodes = λ n low. fresh_node 16 n;
  stopped = refl;
  flags = refl;
  sent = tt;
}

pub first_held : (classes : Classes) (parts : Parts) → parts ≡ first_parts → Holds classes parts (beginning classes)
first_held classes parts e = subst (λ (w : Parts). Holds classes w (beginning classes)) (sym e) (held_first classes)
