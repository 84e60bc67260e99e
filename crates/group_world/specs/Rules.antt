-- What a node does at an event, one definition for each rule. A node has a number and a state.
use Rattle.std.specs.Prelude.{ℕ, suc, List, [], ◌∷◌, ◌++◌, length, take, drop, min, max, Bool, true, false, not, ◌&&◌}
use Rattle.std.specs.Prelude.{◌||◌, ◌==◌, nat_lt, if◌then◌else◌, Option, Some, None, is_none}
use Rattle.placement.specs.Placement.{has}
use Rattle.pg_log.specs.Requests.{ClientRequest}
use Rattle.pg_log.specs.Log.{Classes, Reply, reply_at}
use Rattle.pg_log.specs.Refusals.{place_of, refusal, first_refusal}
use Rattle.pg_log.specs.declared.log_error.LogError.{LogError}
use Rattle.group_world.specs.Maps.{GroupMap, is_primary, all_among, is_same_list}
use Rattle.group_world.specs.Refusal.{of_log}
use Rattle.group_world.specs.Node.{NodeState, Outcome, committed_list, nothing, refused, and_sends, packet, to_all}
use Rattle.group_world.specs.Node.{to_others, is_waiting, is_installed, is_asking, is_installing, is_active}
use Rattle.group_world.specs.declared.status.Status.{Status}
use Rattle.group_world.specs.declared.status.Status.TheVariants.{Out, Waiting, Installed, Asking, Installing, Active}
use Rattle.group_world.specs.declared.party.Party.{Party}
use Rattle.group_world.specs.declared.party.Party.TheVariants.{Node as ANode, Monitor as TheMonitor, Client as AClient}
use Rattle.group_world.specs.declared.message.MessageKind.{MessageKind}
use Rattle.group_world.specs.declared.message.MessageKind.TheVariants.{Query, Log as LogOf, Install}
use Rattle.group_world.specs.declared.message.MessageKind.TheVariants.{Installed as InstalledIn, AskActivate, Activated}
use Rattle.group_world.specs.declared.message.MessageKind.TheVariants.{Rep, Ack, Reply as ReplyTo}
use Rattle.group_world.specs.declared.message.Packet.{Packet}
use Rattle.group_world.specs.declared.event.Event.{Event}
use Rattle.group_world.specs.declared.event.Event.TheVariants.{Request as ARequest, Map as AMap, Message as AMessage}
use Rattle.group_world.specs.declared.handle_error.HandleError.TheVariants.{NotPrimary, Peering}

-- RECEIVED LISTS

-- the requests are equal in each part
abbrev pub is_same_request : ClientRequest → ClientRequest → Bool
is_same_request a b = (a.client == b.client) && ((a.number == b.number) && (is_same_list a.object b.object
    && ((a.class == b.class) && (is_same_list a.method b.method && is_same_list a.input b.input))))

-- the first list is a beginning of the second
abbrev pub begins : List ClientRequest → List ClientRequest → Bool
begins [] ys = true
begins (x ∷ xs) [] = false
begins (x ∷ xs) (y ∷ ys) = is_same_request x y && begins xs ys

-- the list can be run, and begins with what the node has committed
abbrev pub is_usable : Classes → NodeState → List ClientRequest → Bool
is_usable classes s list = is_none (first_refusal classes list) && begins (committed_list s) list

-- ADOPT A LIST. The primary takes it as its log and has the other members install it. It counts as
-- installed itself. If it acts alone it asks the monitor at once.
abbrev pub ask_if : ℕ → NodeState → Bool → List Packet
ask_if n s all = if all then packet n TheMonitor (AskActivate s.interval) ∷ [] else []

-- the node adopts a list, which becomes its log
abbrev pub adopt : ℕ → NodeState → List ClientRequest → Outcome
adopt n s list = record {
  node = record s { status = Installing; log = list; joined = n ∷ []; acked = [] };
  sent = to_others n s.members.acting (Install s.members list) ++ ask_if n s (all_among s.members.acting (n ∷ []));
  refusal = None;
}

-- LEARN A MAP. A node moves to a map of a higher interval. If it doesn't act there it is out; if it
-- acts and isn't the primary it waits. A primary asks the members of the previous interval for
-- their lists; if there is no previous interval it adopts the empty list. A node that has committed
-- something ignores a map by which it would adopt the empty list. Other maps change nothing.
abbrev pub at_map : NodeState → GroupMap → Status → NodeState
at_map s m status = record {
  interval = m.interval;
  members = m;
  status = status;
  log = s.log;
  committed = s.committed;
  joined = [];
  acked = [];
}

-- the primary at a new map: it adopts the empty list if no interval was activated before, else it
-- asks
abbrev pub lead : ℕ → NodeState → GroupMap → Outcome
lead n s m = if m.prev == 0 then adopt n (at_map s m Asking) []
    else record { node = at_map s m Asking; sent = to_all n m.prev_acting (Query m); refusal = None }

-- the node moves to a map: as primary, as another acting node, or as one that is out
abbrev pub move_to : ℕ → NodeState → GroupMap → Outcome
move_to n s m = if is_primary n m then lead n s m else
    if has n m.acting then nothing (at_map s m Waiting) else nothing (at_map s m Out)

-- the node moves to a map only if its interval is higher
abbrev pub arrive : ℕ → NodeState → GroupMap → Outcome
arrive n s m = if nat_lt s.interval m.interval then move_to n s m else nothing s

-- a map by which the primary would adopt the empty list, though it has committed requests
abbrev pub would_forget : ℕ → NodeState → GroupMap → Bool
would_forget n s m = nat_lt s.interval m.interval && (is_primary n m && ((m.prev == 0) && nat_lt 0 s.committed))

-- such a map is ignored
abbrev pub learn_map : ℕ → NodeState → GroupMap → Outcome
learn_map n s m = if would_forget n s m then nothing s else arrive n s m

-- a message with such a map, or with a map of a lower interval, is ignored
abbrev pub ignores : ℕ → NodeState → GroupMap → Bool
ignores n s m = nat_lt m.interval s.interval || would_forget n s m

-- ANSWER A QUERY. The node first moves to its map, then sends its list to the asker.
abbrev pub answer_query : ℕ → NodeState → Party → GroupMap → Outcome
answer_query n s asker m = if ignores n s m then nothing s else
    (let o = arrive n s m in and_sends o (packet n asker (LogOf o.node.interval o.node.log)))

-- ADOPT A LOG. A primary that asks adopts the first usable list of its interval.
abbrev pub adopt_log : Classes → ℕ → NodeState → ℕ → List ClientRequest → Outcome
adopt_log classes n s interval list =
    if (interval == s.interval) && (is_asking s.status && is_usable classes s list) then adopt n s list else nothing s

-- INSTALL. If the node can't use the list it ignores the message, and doesn't move. Else it first
-- moves to the map. If it then waits, it takes the list as its log and answers Installed. If it has
-- installed already, it only answers Installed again.
abbrev pub says_installed : ℕ → Party → NodeState → Packet
says_installed n receiver s = packet n receiver (InstalledIn s.interval)

-- o is the outcome of the move
abbrev pub install_after : ℕ → Party → List ClientRequest → Outcome → Outcome
install_after n sender list o =
    if is_waiting o.node.status
    then and_sends (record { node = record (o.node) { status = Installed; log = list }; sent = o.sent; refusal = None })
    (says_installed n sender o.node)
    else if is_installed o.node.status then and_sends o (says_installed n sender o.node) else o

-- the node takes a list that it is to install
abbrev pub install : Classes → ℕ → NodeState → Party → GroupMap → List ClientRequest → Outcome
install classes n s sender m list = if ignores n s m then nothing s else
    if is_usable classes s list then install_after n sender list (arrive n s m) else nothing s

-- NOTE AN INSTALLED. An installing primary notes each other member of its interval once. After the
-- last one it asks the monitor.
abbrev pub note_installed : ℕ → NodeState → Party → ℕ → Outcome
note_installed n s (ANode m) interval =
    if (interval == s.interval) && (is_installing s.status && (has m s.members.acting && not (has m s.joined)))
    then record {
      node = record s { joined = s.joined ++ m ∷ [] };
      sent = ask_if n s (all_among s.members.acting (s.joined ++ m ∷ []));
      refusal = None;
    }
    else nothing s
note_installed n s _ interval = nothing s

-- ACTIVATE. An installing primary becomes active. The whole list that it adopted is committed, and
-- counts as acknowledged by each member.
abbrev pub each_at : List ℕ → ℕ → List ℕ
each_at [] k = []
each_at (n ∷ ns) k = k ∷ each_at ns k

-- the node takes the activation of an interval
abbrev pub activate : NodeState → ℕ → Outcome
activate s interval = if (interval == s.interval) && is_installing s.status
    then nothing (record s {
      status = Active;
      committed = length s.log;
      acked = each_at s.members.acting (length s.log);
    })
    else nothing s

-- COMMIT. The commit point rises to the least acknowledged length, the primary's own included, and
-- each newly committed request is answered, in order.
abbrev pub least_of : ℕ → List ℕ → ℕ
least_of k [] = k
least_of k (a ∷ acked) = least_of (min k a) acked

-- the answer at a place of a list, or an empty one if the place is past the end
abbrev pub or_empty : Option Reply → Reply
or_empty None = record { code = 0; output = [] }
or_empty (Some reply) = reply

-- the reply of the request at a place of the log, to its client
abbrev pub reply_packet : Classes → ℕ → List ClientRequest → ℕ → ClientRequest → Packet
reply_packet classes n log place r =
    packet n (AClient r.client) (ReplyTo r.client r.number place (or_empty (reply_at classes log place)))

-- the replies to these requests, which are in the log from a place on
abbrev pub replies_from : Classes → ℕ → List ClientRequest → ℕ → List ClientRequest → List Packet
replies_from classes n log place [] = []
replies_from classes n log place (r ∷ rs) =
    reply_packet classes n log place r ∷ replies_from classes n log (suc place) rs

-- the commit point rises, and newly committed requests are answered
abbrev pub commit : Classes → ℕ → NodeState → Outcome
commit classes n s = let point = max s.committed (least_of (length s.log) s.acked) in record {
  node = record s { committed = point };
  sent = replies_from classes n s.log s.committed (drop s.committed (take point s.log));
  refusal = None;
}

-- a member's acknowledged length rises to k if it is lower
abbrev pub raised : ℕ → ℕ → List ℕ → List ℕ → List ℕ
raised m k [] acked = acked
raised m k (n ∷ ns) [] = []
raised m k (n ∷ ns) (a ∷ acked) = (if n == m then max a k else a) ∷ raised m k ns acked

-- REQUEST. An active primary answers a committed request again, and doesn't answer one that is
-- logged and not committed. A new request that may follow the log is appended and sent to the other
-- members; if the primary acts alone it is committed at once. Any other request is refused.
abbrev pub append_new : Classes → ℕ → NodeState → ClientRequest → Outcome
append_new classes n s r =
    let o = commit classes n (record s {
      log = s.log ++ r ∷ [];
      acked = raised n (length (s.log ++ r ∷ [])) s.members.acting s.acked;
    }) in
    record {
      node = o.node;
      sent = to_others n s.members.acting (Rep s.interval (length s.log) r) ++ o.sent;
      refusal = None;
    }

-- a new request is appended, or refused for the log's reason
abbrev pub append_unless : Classes → ℕ → NodeState → ClientRequest → Option LogError → Outcome
append_unless classes n s r None = append_new classes n s r
append_unless classes n s r (Some why) = refused s (of_log why)

-- the last argument is the place in the log of the request's client and number, if it has them
abbrev pub request_at : Classes → ℕ → NodeState → ClientRequest → Option ℕ → Outcome
request_at classes n s r (Some place) =
    if nat_lt place s.committed then and_sends (nothing s) (reply_packet classes n s.log place r) else nothing s
request_at classes n s r None = append_unless classes n s r (refusal classes s.log r)

-- the node takes a request
abbrev pub request : Classes → ℕ → NodeState → ClientRequest → Outcome
request classes n s r = if is_active s.status then request_at classes n s r (place_of r.client r.number s.log) else
    if is_asking s.status || is_installing s.status then refused s Peering else refused s NotPrimary

-- REPLICATE. A member that has installed appends the request of the next place, if the request may
-- follow the log, and acknowledges its length. At a lower place it only acknowledges.
abbrev pub says_ack : ℕ → Party → NodeState → Packet
says_ack n receiver s = packet n receiver (Ack s.interval (length s.log))

-- the node as it is, with an acknowledgement of its length
abbrev pub and_acks : ℕ → Party → NodeState → Outcome
and_acks n receiver s = and_sends (nothing s) (says_ack n receiver s)

-- a member takes the request of a place
abbrev pub replicate : Classes → ℕ → NodeState → Party → ℕ → ℕ → ClientRequest → Outcome
replicate classes n s sender interval place r =
    if (interval == s.interval) && is_installed s.status then
    (if nat_lt place (length s.log) then and_acks n sender s else
    if (place == length s.log) && is_none (refusal classes s.log r)
    then and_acks n sender (record s { log = s.log ++ r ∷ [] }) else nothing s)
    else nothing s

-- ACKNOWLEDGE. An active primary raises the member's length, and then the commit point.
abbrev pub acknowledge : Classes → ℕ → NodeState → Party → ℕ → ℕ → Outcome
acknowledge classes n s (ANode m) interval k = if (interval == s.interval) && is_active s.status
    then commit classes n (record s { acked = raised m k s.members.acting s.acked }) else nothing s
acknowledge classes n s _ interval k = nothing s

-- what a node does at a message
abbrev pub receive : Classes → ℕ → NodeState → Party → MessageKind → Outcome
receive classes n s sender (Query m) = answer_query n s sender m
receive classes n s sender (LogOf interval list) = adopt_log classes n s interval list
receive classes n s sender (Install m list) = install classes n s sender m list
receive classes n s sender (InstalledIn interval) = note_installed n s sender interval
receive classes n s sender (AskActivate interval) = nothing s
receive classes n s sender (Activated interval) = activate s interval
receive classes n s sender (Rep interval place r) = replicate classes n s sender interval place r
receive classes n s sender (Ack interval k) = acknowledge classes n s sender interval k
receive classes n s sender (ReplyTo client number place answer) = nothing s

-- What node n in state s does at an event, if memory isn't refused.
abbrev pub local_step : Classes → ℕ → NodeState → Event → Outcome
local_step classes n s (ARequest r) = request classes n s r
local_step classes n s (AMap m) = learn_map n s m
local_step classes n s (AMessage m) = receive classes n s m.sender m.kind
