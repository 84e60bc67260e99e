-- Which messages are equal, of the kinds that are sent again, and the lowest number of an equal
-- one.
use Rattle.std.specs.Prelude.{ℕ, suc, ◌==◌, ◌&&◌, Bool, true, false, List, [], ◌∷◌, if◌then◌else◌}
use Rattle.pg_log.specs.Requests.{ClientRequest}
use Rattle.group_world.specs.Maps.{GroupMap, is_same_list}
use Rattle.group_world.specs.Rules.{is_same_request}
use Rattle.group_world.specs.declared.party.Party.{Party}
use Rattle.group_world.specs.declared.party.Party.TheVariants.{Node as ANode, Monitor as TheMonitor, Client as AClient}
use Rattle.group_world.specs.declared.message.MessageKind.{MessageKind}
use Rattle.group_world.specs.declared.message.MessageKind.TheVariants.{Query, Install, AskActivate, Rep}
use Rattle.group_world.specs.declared.message.Packet.{Packet}

-- maps that are equal in each part
abbrev pub is_same_map : GroupMap → GroupMap → Bool
is_same_map a b = (a.epoch == b.epoch) && ((a.interval == b.interval) &&
    (is_same_list a.acting b.acting && ((a.prev == b.prev) && is_same_list a.prev_acting b.prev_acting)))

-- lists of equal requests
abbrev pub are_same_requests : List ClientRequest → List ClientRequest → Bool
are_same_requests [] [] = true
are_same_requests [] (y ∷ ys) = false
are_same_requests (x ∷ xs) [] = false
are_same_requests (x ∷ xs) (y ∷ ys) = is_same_request x y && are_same_requests xs ys

-- the message is equal to one of this kind, with these parts:
abbrev pub is_query : MessageKind → GroupMap → Bool
is_query (Query n) m = is_same_map m n
is_query _ m = false

abbrev pub is_install : MessageKind → GroupMap → List ClientRequest → Bool
is_install (Install n ys) m xs = is_same_map m n && are_same_requests xs ys
is_install _ m xs = false

abbrev pub is_ask : MessageKind → ℕ → Bool
is_ask (AskActivate other) interval = interval == other
is_ask _ interval = false

abbrev pub is_rep : MessageKind → ℕ → ℕ → ClientRequest → Bool
is_rep (Rep other at q) interval place r = (interval == other) && ((place == at) && is_same_request r q)
is_rep _ interval place r = false

-- equal messages of the four kinds that are sent again; no other kind is equal to any
abbrev pub is_same_kind : MessageKind → MessageKind → Bool
is_same_kind (Query m) other = is_query other m
is_same_kind (Install m list) other = is_install other m list
is_same_kind (AskActivate interval) other = is_ask other interval
is_same_kind (Rep interval place r) other = is_rep other interval place r
is_same_kind _ other = false

-- the party is that node, the monitor, or that client:
abbrev pub is_node_party : Party → ℕ → Bool
is_node_party (ANode m) n = n == m
is_node_party _ n = false

abbrev pub is_monitor : Party → Bool
is_monitor TheMonitor = true
is_monitor _ = false

abbrev pub is_client : Party → ℕ → Bool
is_client (AClient d) c = c == d
is_client _ c = false

-- the same party
abbrev pub is_same_party : Party → Party → Bool
is_same_party (ANode n) other = is_node_party other n
is_same_party TheMonitor other = is_monitor other
is_same_party (AClient c) other = is_client other c

-- the same receiver, sender and content
abbrev pub is_same_packet : Packet → Packet → Bool
is_same_packet p q = is_same_party p.receiver q.receiver &&
    (is_same_party p.message.sender q.message.sender && is_same_kind p.message.kind q.message.kind)

-- The lowest number of an equal message, from a number on; the one past the last if there is
-- none.
abbrev pub number_from : ℕ → Packet → List Packet → ℕ
number_from number p [] = number
number_from number p (q ∷ qs) = if is_same_packet p q then number else number_from (suc number) p qs

-- among all messages that were sent
abbrev pub number_of : List Packet → Packet → ℕ
number_of sent p = number_from 1 p sent
