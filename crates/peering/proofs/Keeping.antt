-- Each rule keeps the log legal, and only the rule of requests refuses.
use Rattle.std.proofs.Common.{◌≡◌, ℕ, Bool, true, false, cond, ◌&&◌, ◌||◌, not, eqb, nat_lt, List, [], ◌∷◌, ◌++◌, length, Option, Some, None, is_none, Result, Ok, Err, IfErr, inr, refl}
use Rattle.std.proofs.lemmas.Bool.{and_parts, false≢true}
use Rattle.placement.specs.Placement.{has}
use Rattle.pg_log.specs.declared.log_error.LogError.{LogError}
use Rattle.pg_log.specs.Requests.{ClientRequest}
use Rattle.pg_log.specs.Log.{Classes, Legal}
use Rattle.pg_log.specs.Refusals.{refusal, place_of}
use Rattle.pg_log.specs.Laws.{AppendIsAStep, EmptyIsLegal, RefusalsAreExact, ListsAreExact}
use Rattle.group_world.specs.Maps.{GroupMap, is_primary, all_among}
use Rattle.group_world.specs.Node.{NodeState, Outcome, nothing, refused, and_sends, packet, to_all, is_waiting, is_installed, is_asking, is_installing, is_active}
use Rattle.group_world.specs.Rules.{is_usable, adopt, lead, at_map, move_to, arrive, would_forget, learn_map, ignores, answer_query, adopt_log, says_installed, install_after, install, note_installed, activate, commit, append_unless, reply_packet, request_at, request, and_acks, replicate, acknowledge, receive, local_step, ask_if, each_at, raised}
use Rattle.group_world.specs.declared.handle_error.HandleError.{HandleError}
use Rattle.group_world.specs.declared.handle_error.HandleError.TheVariants.{NotPrimary, Peering, NoMemory}
use Rattle.peering.specs.Numbered.{IsRefusal}
use Rattle.group_world.specs.declared.status.Status.TheVariants.{Out, Waiting, Installed, Asking, Active}
use Rattle.group_world.specs.declared.party.Party.{Party}
use Rattle.group_world.specs.declared.party.Party.TheVariants.{Node as ANode, Monitor as TheMonitor, Client as AClient}
use Rattle.group_world.specs.declared.message.MessageKind.{MessageKind}
use Rattle.group_world.specs.declared.message.MessageKind.TheVariants.{Query, Log as LogOf, Install, Installed as InstalledIn, AskActivate, Activated, Rep, Ack, Reply as ReplyTo}
use Rattle.group_world.specs.declared.event.Event.{Event}
use Rattle.group_world.specs.declared.event.Event.TheVariants.{Request as ARequest, Map as AMap, Message as AMessage}
use Rattle.peering.proofs.Following.{next_legal}

-- the laws of legal lists
pub record Laws : Type 0 where
  pub empty : EmptyIsLegal
  pub append : AppendIsAStep
  pub exact : RefusalsAreExact
  pub lists : ListsAreExact

pub either : {X : Type 0} (P : X → Type 0) (b : Bool) (x y : X) → (b ≡ true → P x) → (b ≡ false → P y) → P (cond b x y)
either P true x y f g = f refl
either P false x y f g = g refl

none_is : {X : Type 0} (o : Option X) → is_none o ≡ true → o ≡ None
none_is None h = refl
none_is (Some x) h = absurd (false≢true h)

-- it is no refusal, and the log is legal
abbrev pub IsKept : Classes → Outcome → Type 0
IsKept classes o = (o.refusal ≡ None) × Legal classes o.node.log

usable_legal : Laws → (classes : Classes) (s : NodeState) (list : List ClientRequest) → is_usable classes s list ≡ true → Legal classes list
usable_legal laws classes s list h = (laws.lists classes list).0 (none_is _ (and_parts _ _ h).0)

lead_kept : Laws → (classes : Classes) (n : ℕ) (s : NodeState) (m : GroupMap) → Legal classes s.log → IsKept classes (lead n s m)
lead_kept laws classes n s m l =
    either (IsKept classes) (eqb m.prev 0) (adopt n (at_map s m Asking) []) (record { node = at_map s m Asking; sent = to_all n m.prev_acting (Query m); refusal = None })
    (λ _. (refl, laws.empty classes)) (λ _. (refl, l))

move_kept : Laws → (classes : Classes) (n : ℕ) (s : NodeState) (m : GroupMap) → Legal classes s.log → IsKept classes (move_to n s m)
move_kept laws classes n s m l =
    either (IsKept classes) (is_primary n m) (lead n s m) (cond (has n m.acting) (nothing (at_map s m Waiting)) (nothing (at_map s m Out)))
    (λ _. lead_kept laws classes n s m l)
    (λ _. either (IsKept classes) (has n m.acting) (nothing (at_map s m Waiting)) (nothing (at_map s m Out)) (λ _. (refl, l)) (λ _. (refl, l)))

arrive_kept : Laws → (classes : Classes) (n : ℕ) (s : NodeState) (m : GroupMap) → Legal classes s.log → IsKept classes (arrive n s m)
arrive_kept laws classes n s m l =
    either (IsKept classes) (nat_lt s.interval m.interval) (move_to n s m) (nothing s) (λ _. move_kept laws classes n s m l) (λ _. (refl, l))

learn_kept : Laws → (classes : Classes) (n : ℕ) (s : NodeState) (m : GroupMap) → Legal classes s.log → IsKept classes (learn_map n s m)
learn_kept laws classes n s m l = either (IsKept classes) (would_forget n s m) (nothing s) (arrive n s m) (λ _. (refl, l)) (λ _. arrive_kept laws classes n s m l)

query_kept : Laws → (classes : Classes) (n : ℕ) (s : NodeState) (asker : Party) (m : GroupMap) → Legal classes s.log → IsKept classes (answer_query n s asker m)
query_kept laws classes n s asker m l =
    let o : Outcome = arrive n s m in
    either (IsKept classes) (ignores n s m) (nothing s) (and_sends o (packet n asker (LogOf o.node.interval o.node.log)))
    (λ _. (refl, l)) (λ _. (refl, (arrive_kept laws classes n s m l).1))

adopt_kept : Laws → (classes : Classes) (n : ℕ) (s : NodeState) (interval : ℕ) (list : List ClientRequest) → Legal classes s.log → IsKept classes (adopt_log classes n s interval list)
adopt_kept laws classes n s interval list l =
    either (IsKept classes) (eqb interval s.interval && (is_asking s.status && is_usable classes s list)) (adopt n s list) (nothing s)
    (λ h. (refl, usable_legal laws classes s list (and_parts _ _ (and_parts _ _ h).1).1)) (λ _. (refl, l))

after_kept : (classes : Classes) (n : ℕ) (sender : Party) (list : List ClientRequest) (o : Outcome) →
    Legal classes list → IsKept classes o → IsKept classes (install_after n sender list o)
after_kept classes n sender list o l k =
    let taken : Outcome = and_sends (record { node = record (o.node) { status = Installed; log = list }; sent = o.sent; refusal = None }) (says_installed n sender o.node) in
    let said : Outcome = and_sends o (says_installed n sender o.node) in
    either (IsKept classes) (is_waiting o.node.status) taken (cond (is_installed o.node.status) said o) (λ _. (refl, l))
    (λ _. either (IsKept classes) (is_installed o.node.status) said o (λ _. (refl, k.1)) (λ _. k))

install_kept : Laws → (classes : Classes) (n : ℕ) (s : NodeState) (sender : Party) (m : GroupMap) (list : List ClientRequest) →
    Legal classes s.log → IsKept classes (install classes n s sender m list)
install_kept laws classes n s sender m list l =
    let o : Outcome = install_after n sender list (arrive n s m) in
    either (IsKept classes) (ignores n s m) (nothing s) (cond (is_usable classes s list) o (nothing s)) (λ _. (refl, l))
    (λ _. either (IsKept classes) (is_usable classes s list) o (nothing s)
    (λ h. after_kept classes n sender list (arrive n s m) (usable_legal laws classes s list h) (arrive_kept laws classes n s m l)) (λ _. (refl, l)))

noted_kept : (classes : Classes) (n : ℕ) (s : NodeState) (sender : Party) (interval : ℕ) → Legal classes s.log → IsKept classes (note_installed n s sender interval)
noted_kept classes n s (ANode m) interval l =
    either (IsKept classes) (eqb interval s.interval && (is_installing s.status && (has m s.members.acting && not (has m s.joined))))
    (record { node = record s { joined = s.joined ++ m ∷ [] }; sent = ask_if n s (all_among s.members.acting (s.joined ++ m ∷ [])); refusal = None }) (nothing s)
    (λ _. (refl, l)) (λ _. (refl, l))
noted_kept classes n s TheMonitor interval l = (refl, l)
noted_kept classes n s (AClient client) interval l = (refl, l)

activate_kept : (classes : Classes) (s : NodeState) (interval : ℕ) → Legal classes s.log → IsKept classes (activate s interval)
activate_kept classes s interval l =
    either (IsKept classes) (eqb interval s.interval && is_installing s.status)
    (nothing (record s { status = Active; committed = length s.log; acked = each_at s.members.acting (length s.log) })) (nothing s)
    (λ _. (refl, l)) (λ _. (refl, l))

replicate_kept : Laws → (classes : Classes) (n : ℕ) (s : NodeState) (sender : Party) (interval place : ℕ) (r : ClientRequest) →
    Legal classes s.log → IsKept classes (replicate classes n s sender interval place r)
replicate_kept laws classes n s sender interval place r l =
    let longer : Outcome = and_acks n sender (record s { log = s.log ++ r ∷ [] }) in
    either (IsKept classes) (eqb interval s.interval && is_installed s.status)
    (cond (nat_lt place (length s.log)) (and_acks n sender s) (cond (eqb place (length s.log) && is_none (refusal classes s.log r)) longer (nothing s))) (nothing s)
    (λ _. either (IsKept classes) (nat_lt place (length s.log)) (and_acks n sender s) (cond (eqb place (length s.log) && is_none (refusal classes s.log r)) longer (nothing s))
    (λ _. (refl, l))
    (λ _. either (IsKept classes) (eqb place (length s.log) && is_none (refusal classes s.log r)) longer (nothing s)
    (λ h. (refl, next_legal laws.append laws.exact classes s.log r l (none_is _ (and_parts _ _ h).1))) (λ _. (refl, l))))
    (λ _. (refl, l))

acknowledge_kept : (classes : Classes) (n : ℕ) (s : NodeState) (sender : Party) (interval k : ℕ) → Legal classes s.log → IsKept classes (acknowledge classes n s sender interval k)
acknowledge_kept classes n s (ANode m) interval k l =
    either (IsKept classes) (eqb interval s.interval && is_active s.status) (commit classes n (record s { acked = raised m k s.members.acting s.acked })) (nothing s)
    (λ _. (refl, l)) (λ _. (refl, l))
acknowledge_kept classes n s TheMonitor interval k l = (refl, l)
acknowledge_kept classes n s (AClient client) interval k l = (refl, l)

pub receive_kept : Laws → (classes : Classes) (n : ℕ) (s : NodeState) (sender : Party) (kind : MessageKind) → Legal classes s.log → IsKept classes (receive classes n s sender kind)
receive_kept laws classes n s sender (Query m) l = query_kept laws classes n s sender m l
receive_kept laws classes n s sender (LogOf interval list) l = adopt_kept laws classes n s interval list l
receive_kept laws classes n s sender (Install m list) l = install_kept laws classes n s sender m list l
receive_kept laws classes n s sender (InstalledIn interval) l = noted_kept classes n s sender interval l
receive_kept laws classes n s sender (AskActivate interval) l = (refl, l)
receive_kept laws classes n s sender (Activated interval) l = activate_kept classes s interval l
receive_kept laws classes n s sender (Rep interval place r) l = replicate_kept laws classes n s sender interval place r l
receive_kept laws classes n s sender (Ack interval k) l = acknowledge_kept classes n s sender interval k l
receive_kept laws classes n s sender (ReplyTo client number place answer) l = (refl, l)

pub map_kept : Laws → (classes : Classes) (n : ℕ) (s : NodeState) (m : GroupMap) → Legal classes s.log → IsKept classes (learn_map n s m)
map_kept = learn_kept

-- the log of an outcome is legal
abbrev HasLegal : Classes → Outcome → Type 0
HasLegal classes o = Legal classes o.node.log

unless_legal : Laws → (classes : Classes) (n : ℕ) (s : NodeState) (r : ClientRequest) (why : Option LogError) → refusal classes s.log r ≡ why → Legal classes s.log → HasLegal classes (append_unless classes n s r why)
unless_legal laws classes n s r None h l = next_legal laws.append laws.exact classes s.log r l h
unless_legal laws classes n s r (Some why) h l = l

at_legal : Laws → (classes : Classes) (n : ℕ) (s : NodeState) (r : ClientRequest) (place : Option ℕ) → Legal classes s.log → HasLegal classes (request_at classes n s r place)
at_legal laws classes n s r None l = unless_legal laws classes n s r (refusal classes s.log r) refl l
at_legal laws classes n s r (Some place) l =
    either (HasLegal classes) (nat_lt place s.committed) (and_sends (nothing s) (reply_packet classes n s.log place r)) (nothing s) (λ _. l) (λ _. l)

pub request_legal : Laws → (classes : Classes) (n : ℕ) (s : NodeState) (r : ClientRequest) → Legal classes s.log → Legal classes (request classes n s r).node.log
request_legal laws classes n s r l =
    let busy : Outcome = cond (is_asking s.status || is_installing s.status) (refused s Peering) (refused s NotPrimary) in
    either (HasLegal classes) (is_active s.status) (request_at classes n s r (place_of r.client r.number s.log)) busy
    (λ _. at_legal laws classes n s r (place_of r.client r.number s.log) l)
    (λ _. either (HasLegal classes) (is_asking s.status || is_installing s.status) (refused s Peering) (refused s NotPrimary) (λ _. l) (λ _. l))

-- the log stays legal at each event
pub step_legal : Laws → (classes : Classes) (n : ℕ) (s : NodeState) (event : Event) → Legal classes s.log → Legal classes (local_step classes n s event).node.log
step_legal laws classes n s (ARequest r) l = request_legal laws classes n s r l
step_legal laws classes n s (AMap m) l = (learn_kept laws classes n s m l).1
step_legal laws classes n s (AMessage m) l = (receive_kept laws classes n s m.sender m.kind l).1

-- NoMemory is given only if nothing else refuses
pub short : {T : Type 0} (r : Result T HandleError) (o : Outcome) → o.refusal ≡ None → IfErr r (λ e. e ≡ NoMemory) → IfErr r (λ e. IsRefusal o e)
short (Ok x) o h w = w
short (Err e) o h w = inr (w, h)
