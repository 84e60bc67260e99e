-- An agreed world goes on by a line: its events, what they bring, and that no committed list is
-- cut.
use Rattle.std.proofs.Common.{◌≡◌, ◌-◌, ℕ, Bool, true, false, if◌then◌else◌, List, [], ◌∷◌, ◌++◌, length, map, set, Option, Some, None, refl, sym, ap, ◌∙◌, subst, arith, append-nil}
use Rattle.pg_log.specs.Requests.{ClientRequest}
use Rattle.pg_log.specs.Log.{Classes}
use Rattle.group_world.specs.Maps.{GroupMap}
use Rattle.group_world.specs.Node.{Outcome, committed_list}
use Rattle.group_world.specs.Monitor.{map_refusal, next_map, activation_refusal}
use Rattle.group_world.specs.Unanswered.{unanswered}
use Rattle.group_world.specs.World.{World, WorldEvent, RequestAt, MapMade, MapSeen, Delivered, happens, brought, brought_by, AllAgree, NoneIsCut, StepsCutNothing, IsUncut}
use Rattle.group_world.proofs.Lists.{prefix_refl}
use Rattle.group_world.proofs.Reach.{brought_more}
use Rattle.group_world.specs.declared.handle_error.HandleError.{HandleError}
use Rattle.group_world.specs.declared.monitor_error.MonitorError.{MonitorError}
use Rattle.group_world.specs.declared.party.Party.{Party}
use Rattle.group_world.specs.declared.party.Party.TheVariants.{Node as ANode, Monitor as TheMonitor, Client as AClient}
use Rattle.group_world.specs.declared.message.MessageKind.{MessageKind}
use Rattle.group_world.specs.declared.message.MessageKind.TheVariants.{Query, Log as LogOf, Install, Installed as InstalledIn, AskActivate, Activated, Rep, Ack, Reply as ReplyTo}
use Rattle.group_world.specs.declared.message.Message.{Message}
use Rattle.group_world.specs.declared.message.Packet.{Packet}
use Rattle.group_world.specs.declared.event.Event.{Event}
use Rattle.group_world.specs.declared.event.Event.TheVariants.{Request as ARequest, Map as AMap, Message as AMessage}
use Rattle.sim_world.specs.Lines.{numbered}
use Rattle.sim_world.specs.Texts.{made_of, shown_of}
use Rattle.sim_world.specs.declared.line.Line.{Line}
use Rattle.sim_world.specs.declared.line.Line.TheVariants as lines
use Rattle.sim_world.specs.declared.taken.Taken.{Taken}
use Rattle.sim_world.specs.declared.taken.Taken.TheVariants.{Bad, Skipped, Stopped, Sent, Refused, MonitorRefused, Made, Shown, Again}
use Rattle.sim_world.specs.Same.{number_of}
use Rattle.sim_world.specs.Step.{Played, Happened, beginning, stays, happened, unless_stopped, unless_refused, outcome_at, makes, activates, at_node, at_monitor, deliver, deliver_to, see, set_stopped, show, step, is_node, is_stopped}
use Rattle.sim_world.specs.Agreed.{EventsLead, EventsGrew, GoesOn, WorldsAgree, taken_by}
use Rattle.sim_world.proofs.Reaching.{leads_more, agreed_played}

-- The end of a line goes on from a played world; by what is taken, those requests were brought.
record Follows (classes : Classes) (p : Played) (h : Happened) (asked : Taken → List ClientRequest) : Type 0 where
  leads : EventsLead classes h.played
  events : EventsGrew p.events h.played.events
  brought : brought h.played.events ≡ brought p.events ++ asked h.taken
  uncut : IsUncut p.world h.played.world

-- nothing happens
follows_stays : (classes : Classes) (p : Played) → EventsLead classes p → (taken : Taken) (asked : Taken → List ClientRequest) → asked taken ≡ [] → Follows classes p (stays p taken) asked
follows_stays classes p leads taken asked none = record {
  leads = leads;
  events = record { own = []; few = omega arith; is = sym (append-nil p.events) };
  brought = sym (append-nil (brought p.events)) ∙ ap (λ (rs : List ClientRequest). brought p.events ++ rs) (sym none);
  uncut = λ n. prefix_refl (committed_list (p.world.nodes n));
}

-- an event happens
follows_happened : NoneIsCut → (classes : Classes) (p : Played) → EventsLead classes p → (event : WorldEvent) (taken : Taken) (asked : Taken → List ClientRequest)
    → asked taken ≡ brought_by event → Follows classes p (happened p event taken) asked
follows_happened uncut classes p leads event taken asked own = record {
  leads = leads_more classes p event (happens p.world event) leads refl;
  events = record { own = event ∷ []; few = omega arith; is = refl };
  brought = brought_more p.events event ∙ ap (λ (rs : List ClientRequest). brought p.events ++ rs) (sym own);
  uncut = subst (λ (w : World). IsUncut w (happens w event)) (sym leads) (uncut classes p.events event);
}

-- by a line that brings nothing
abbrev nothing_asked : Taken → List ClientRequest
nothing_asked taken = []

-- AT A NODE
follows_either : (classes : Classes) (p : Played) (asked : Taken → List ClientRequest) (g h : Happened) (b : Bool) → Follows classes p g asked → Follows classes p h asked
    → Follows classes p (if b then g else h) asked
follows_either classes p asked g h true f k = f
follows_either classes p asked g h false f k = k

follows_running : (classes : Classes) (p : Played) → EventsLead classes p → (asked : Taken → List ClientRequest) → asked Stopped ≡ [] → asked Bad ≡ [] → (n : ℕ) (h : Happened)
    → Follows classes p h asked → Follows classes p (unless_stopped p n h) asked
follows_running classes p leads asked stopped bad n h f =
    follows_either classes p asked (if is_stopped p n then stays p Stopped else h) (stays p Bad) (is_node p n)
    (follows_either classes p asked (stays p Stopped) h (is_stopped p n) (follows_stays classes p leads Stopped asked stopped) f)
    (follows_stays classes p leads Bad asked bad)

follows_refused : NoneIsCut → (classes : Classes) (p : Played) → EventsLead classes p → (event : WorldEvent) (o : Outcome) (r : Option HandleError) (asked : Taken → List ClientRequest)
    → ((count : ℕ) → asked (Sent count) ≡ brought_by event) → ((why : HandleError) → asked (Refused why) ≡ []) → Follows classes p (unless_refused p event o r) asked
follows_refused uncut classes p leads event o None asked own none = follows_happened uncut classes p leads event (Sent (length o.sent)) asked (own (length o.sent))
follows_refused uncut classes p leads event o (Some why) asked own none = follows_stays classes p leads (Refused why) asked (none why)

follows_at : NoneIsCut → (classes : Classes) (p : Played) → EventsLead classes p → (event : WorldEvent) (n : ℕ) (coming : Event) (asked : Taken → List ClientRequest)
    → ((count : ℕ) → asked (Sent count) ≡ brought_by event) → ((why : HandleError) → asked (Refused why) ≡ []) → asked Stopped ≡ [] → asked Bad ≡ []
    → Follows classes p (at_node p event n coming) asked
follows_at uncut classes p leads event n coming asked own none stopped bad =
    let o = outcome_at p.world n coming in
    follows_running classes p leads asked stopped bad n (unless_refused p event o o.refusal)
    (follows_refused uncut classes p leads event o o.refusal asked own none)

-- a message or a map
follows_still : NoneIsCut → (classes : Classes) (p : Played) → EventsLead classes p → (event : WorldEvent) (n : ℕ) (coming : Event) → brought_by event ≡ []
    → Follows classes p (at_node p event n coming) nothing_asked
follows_still uncut classes p leads event n coming still =
    follows_at uncut classes p leads event n coming nothing_asked (λ count. sym still) (λ why. refl) refl refl

-- AT THE MONITOR
follows_made : NoneIsCut → (classes : Classes) (p : Played) → EventsLead classes p → (acting : List ℕ) (r : Option MonitorError) → Follows classes p (makes p acting r) nothing_asked
follows_made uncut classes p leads acting None = follows_happened uncut classes p leads (MapMade acting) (Made (made_of (next_map p.world.monitor acting))) nothing_asked refl
follows_made uncut classes p leads acting (Some why) = follows_stays classes p leads (MonitorRefused why) nothing_asked refl

follows_activated : NoneIsCut → (classes : Classes) (p : Played) → EventsLead classes p → (place : ℕ) (r : Option MonitorError) → Follows classes p (activates p (Delivered place) r) nothing_asked
follows_activated uncut classes p leads place None = follows_happened uncut classes p leads (Delivered place) (Sent 1) nothing_asked refl
follows_activated uncut classes p leads place (Some why) = follows_stays classes p leads (MonitorRefused why) nothing_asked refl

follows_asked : NoneIsCut → (classes : Classes) (p : Played) → EventsLead classes p → (place : ℕ) (kind : MessageKind) → Follows classes p (at_monitor p (Delivered place) kind) nothing_asked
follows_asked uncut classes p leads place (AskActivate interval) = follows_activated uncut classes p leads place (activation_refusal p.world.monitor interval)
follows_asked uncut classes p leads place (Query m) = follows_stays classes p leads (Sent 0) nothing_asked refl
follows_asked uncut classes p leads place (LogOf interval list) = follows_stays classes p leads (Sent 0) nothing_asked refl
follows_asked uncut classes p leads place (Install m list) = follows_stays classes p leads (Sent 0) nothing_asked refl
follows_asked uncut classes p leads place (InstalledIn interval) = follows_stays classes p leads (Sent 0) nothing_asked refl
follows_asked uncut classes p leads place (Activated interval) = follows_stays classes p leads (Sent 0) nothing_asked refl
follows_asked uncut classes p leads place (Rep interval at r) = follows_stays classes p leads (Sent 0) nothing_asked refl
follows_asked uncut classes p leads place (Ack interval k) = follows_stays classes p leads (Sent 0) nothing_asked refl
follows_asked uncut classes p leads place (ReplyTo client number at answer) = follows_stays classes p leads (Sent 0) nothing_asked refl

-- A DELIVERY
follows_to : NoneIsCut → (classes : Classes) (p : Played) → EventsLead classes p → (place : ℕ) (receiver : Party) (m : Message)
    → Follows classes p (deliver_to p (Delivered place) receiver m) nothing_asked
follows_to uncut classes p leads place (ANode n) m = follows_still uncut classes p leads (Delivered place) n (AMessage m) refl
follows_to uncut classes p leads place TheMonitor m = follows_asked uncut classes p leads place m.kind
follows_to uncut classes p leads place (AClient client) m = follows_stays classes p leads (Sent 0) nothing_asked refl

follows_delivered : NoneIsCut → (classes : Classes) (p : Played) → EventsLead classes p → (number : ℕ) (o : Option Packet) → Follows classes p (deliver p number o) nothing_asked
follows_delivered uncut classes p leads number None = follows_stays classes p leads Bad nothing_asked refl
follows_delivered uncut classes p leads number (Some m) = follows_to uncut classes p leads (number - 1) m.receiver m.message

-- MAPS
follows_seen : NoneIsCut → (classes : Classes) (p : Played) → EventsLead classes p → (n number : ℕ) (o : Option GroupMap) → Follows classes p (see p n number o) nothing_asked
follows_seen uncut classes p leads n number None = follows_stays classes p leads Bad nothing_asked refl
follows_seen uncut classes p leads n number (Some m) = follows_still uncut classes p leads (MapSeen n (number - 1)) n (AMap m) refl

-- NO EVENTS
follows_set : (classes : Classes) (p : Played) → EventsLead classes p → (n : ℕ) (b : Bool) → Follows classes p (set_stopped p n b) nothing_asked
follows_set classes p leads n b =
    follows_either classes p nothing_asked (record { played = record { world = p.world; stopped = set p.stopped n b; events = p.events }; taken = Sent 0 }) (stays p Bad) (is_node p n)
    (record {
      leads = leads;
      events = record { own = []; few = omega arith; is = sym (append-nil p.events) };
      brought = sym (append-nil (brought p.events));
      uncut = λ m. prefix_refl (committed_list (p.world.nodes m));
    })
    (follows_stays classes p leads Bad nothing_asked refl)

follows_shown : (classes : Classes) (p : Played) → EventsLead classes p → (n : ℕ) → Follows classes p (show p n) nothing_asked
follows_shown classes p leads n =
    follows_either classes p nothing_asked (stays p (Shown (shown_of n (p.world.nodes n)))) (stays p Bad) (is_node p n)
    (follows_stays classes p leads (Shown (shown_of n (p.world.nodes n))) nothing_asked refl) (follows_stays classes p leads Bad nothing_asked refl)

follows_again : (classes : Classes) (p : Played) → EventsLead classes p → (n : ℕ) (numbers : List ℕ) → Follows classes p (unless_stopped p n (stays p (Again numbers))) nothing_asked
follows_again classes p leads n numbers =
    follows_running classes p leads nothing_asked refl refl n (stays p (Again numbers)) (follows_stays classes p leads (Again numbers) nothing_asked refl)

-- A LINE
follows : NoneIsCut → (classes : Classes) (p : Played) → EventsLead classes p → (line : Line) → Follows classes p (step p line) (taken_by line)
follows uncut classes p leads lines.Empty = follows_stays classes p leads Skipped nothing_asked refl
follows uncut classes p leads (lines.Map acting) = follows_made uncut classes p leads acting (map_refusal p.world.monitor acting)
follows uncut classes p leads (lines.See n epoch) = follows_seen uncut classes p leads n epoch (numbered p.world.maps epoch)
follows uncut classes p leads (lines.Ask n r) =
    follows_at uncut classes p leads (RequestAt n r) n (ARequest r) (taken_by (lines.Ask n r)) (λ count. refl) (λ why. refl) refl refl
follows uncut classes p leads (lines.Deliver number) = follows_delivered uncut classes p leads number (numbered p.world.sent number)
follows uncut classes p leads (lines.Show n) = follows_shown classes p leads n
follows uncut classes p leads (lines.Stop n) = follows_set classes p leads n true
follows uncut classes p leads (lines.Go n) = follows_set classes p leads n false
follows uncut classes p leads (lines.Resend n) = follows_again classes p leads n (map (number_of p.world.sent) (unanswered n (p.world.nodes n)))
follows uncut classes p leads lines.Bad = follows_stays classes p leads Bad nothing_asked refl

-- so it goes on
pub goes_on : NoneIsCut → (classes : Classes) (p : Played) (line : Line) → EventsLead classes p → GoesOn p line
goes_on uncut classes p line leads =
    let all = follows uncut classes p leads line in
    record { events = all.events; brought = all.brought; uncut = all.uncut }

-- and what a line makes of an agreed world is one
pub worlds_agree : AllAgree → NoneIsCut → StepsCutNothing → WorldsAgree
worlds_agree all uncut steps = record {
  first = λ classes. agreed_played all steps classes (beginning classes) refl;
  next = λ classes p line leads. (agreed_played all steps classes (step p line).played (follows uncut classes p leads line).leads, goes_on uncut classes p line leads);
}
