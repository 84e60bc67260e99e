-- Worked runs of the rules, message by message. The requests call a class with the methods `lock`
-- and `unlock`. A line leaves out the answer of a call.
use Rattle.std.specs.Prelude.{◌≡◌, ℕ, ◌-◌, List, [], ◌∷◌, ◌++◌, None, length, map, codes}
use Rattle.bpf_decode.specs.Class.{ClassMethod}
use Rattle.pg_log.specs.Requests.{ClientRequest}
use Rattle.pg_log.specs.Log.{Classes}
use Rattle.group_world.specs.Maps.{GroupMap}
use Rattle.group_world.specs.Unanswered.{unanswered}
use Rattle.group_world.specs.World.{World, WorldEvent, RequestAt, MapMade, MapSeen, Delivered, opening, run}
use Rattle.group_world.specs.declared.status.Status.{Status}
use Rattle.group_world.specs.declared.status.Status.TheVariants.{Installed, Asking, Installing, Active}
use Rattle.group_world.specs.declared.party.Party.{Party}
use Rattle.group_world.specs.declared.party.Party.TheVariants.{Node as ANode, Monitor as TheMonitor, Client as AClient}
use Rattle.group_world.specs.declared.message.MessageKind.{MessageKind}
use Rattle.group_world.specs.declared.message.MessageKind.TheVariants.{Query, Log as LogOf, Install}
use Rattle.group_world.specs.declared.message.MessageKind.TheVariants.{Installed as InstalledIn, AskActivate, Activated}
use Rattle.group_world.specs.declared.message.MessageKind.TheVariants.{Rep, Ack, Reply as ReplyTo}
use Rattle.group_world.specs.declared.message.Packet.{Packet}

-- A message in short: sender, receiver, kind, its interval (a reply has the request's number
-- instead), and a list's length, a place or an acknowledged length.
abbrev pub Line : Type 0
Line = Party × Party × List ℕ × ℕ × ℕ

-- a message's kind as its word, its interval or number, and its other number
abbrev pub in_short : MessageKind → List ℕ × ℕ × ℕ
in_short (Query m) = (codes "Query", m.interval, 0)
in_short (LogOf interval list) = (codes "Log", interval, length list)
in_short (Install m list) = (codes "Install", m.interval, length list)
in_short (InstalledIn interval) = (codes "Installed", interval, 0)
in_short (AskActivate interval) = (codes "AskActivate", interval, 0)
in_short (Activated interval) = (codes "Activated", interval, 0)
in_short (Rep interval place r) = (codes "Rep", interval, place)
in_short (Ack interval k) = (codes "Ack", interval, k)
in_short (ReplyTo client number place answer) = (codes "Reply", number, place)

-- a message in short
abbrev pub line : Packet → Line
line p = let said = in_short p.message.kind in (p.message.sender, p.receiver, said.0, said.1, said.2)

-- a method of that name, which no run of the rules calls
abbrev pub method : List ℕ → ClassMethod
method name = record { name = name; flags = 3; in_cap = 0; out_cap = 0; instructions = []; loops = None }

-- the class
abbrev pub locks : Classes
locks = (method (codes "lock") ∷ method (codes "unlock") ∷ []) ∷ []

-- a call of the class on the object `a`
abbrev pub call : ℕ → ℕ → List ℕ → ClientRequest
call client number name =
    record { client = client; number = number; object = codes "a"; class = 0; method = name; input = [] }

-- the world after these events
abbrev pub after : List WorldEvent → World
after events = run events (opening locks)

-- every message that was sent, in order
abbrev pub lines : List WorldEvent → List Line
lines events = map line (after events).sent

-- interval, status, length and committed length of a node
abbrev pub Standing : Type 0
Standing = ℕ × Status × ℕ × ℕ

-- of node n after these events
abbrev pub standing : List WorldEvent → ℕ → Standing
standing events n = let s = (after events).nodes n in (s.interval, s.status, length s.log, s.committed)

-- node n sees the map of an epoch; message m is delivered; both are counted from 1
abbrev pub sees : ℕ → ℕ → WorldEvent
sees n epoch = MapSeen n (epoch - 1)

-- message m is delivered
abbrev pub delivers : ℕ → WorldEvent
delivers m = Delivered (m - 1)

-- a line from node n to node m, to and from the monitor, and a reply to a client:
abbrev pub from_to : ℕ → ℕ → List ℕ → ℕ → ℕ → Line
from_to n m word first second = (ANode n, ANode m, word, first, second)

abbrev pub to_monitor : ℕ → ℕ → Line
to_monitor n interval = (ANode n, TheMonitor, codes "AskActivate", interval, 0)

abbrev pub from_monitor : ℕ → ℕ → Line
from_monitor n interval = (TheMonitor, ANode n, codes "Activated", interval, 0)

abbrev pub reply : ℕ → ℕ → ℕ → ℕ → Line
reply n client number place = (ANode n, AClient client, codes "Reply", number, place)

-- ONE NODE ALONE adopts the empty list, is activated, and answers at once.
abbrev pub one_node : List WorldEvent
one_node = MapMade (1 ∷ []) ∷ sees 1 1 ∷ delivers 1 ∷ delivers 2
    ∷ RequestAt 1 (call 1 1 (codes "lock")) ∷ RequestAt 1 (call 2 1 (codes "lock")) ∷
    RequestAt 1 (call 1 2 (codes "unlock")) ∷ RequestAt 1 (call 2 2 (codes "lock")) ∷ []

-- each event's messages, in order
abbrev pub OneNode : Type 0
OneNode = lines one_node ≡ to_monitor 1 1 ∷ from_monitor 1 1 ∷ reply 1 1 1 0 ∷ reply 1 2 1 1 ∷ reply 1 1 2 2 ∷
    reply 1 2 2 3 ∷ []

-- THREE NODES become a group.
abbrev pub three_nodes : List WorldEvent
three_nodes = MapMade (1 ∷ 2 ∷ 3 ∷ []) ∷ sees 1 1 ∷ delivers 1 ∷ delivers 2 ∷ delivers 3 ∷ delivers 4 ∷ delivers 5 ∷
    delivers 6 ∷ []

-- the messages of that, in order
abbrev pub three_lines : List Line
three_lines =
    from_to 1 2 (codes "Install") 1 0 ∷ from_to 1 3 (codes "Install") 1 0 ∷ from_to 2 1 (codes "Installed") 1 0
    ∷ from_to 3 1 (codes "Installed") 1 0 ∷ to_monitor 1 1 ∷ from_monitor 1 1 ∷ []

-- A request goes to both, and both have it.
abbrev pub both_have : List WorldEvent
both_have = three_nodes ++ RequestAt 1 (call 1 7 (codes "lock")) ∷ delivers 7 ∷ delivers 8 ∷ []

-- the messages of that, in order
abbrev pub both_lines : List Line
both_lines = three_lines ++ from_to 1 2 (codes "Rep") 1 0 ∷ from_to 1 3 (codes "Rep") 1 0 ∷
    from_to 2 1 (codes "Ack") 1 1 ∷ from_to 3 1 (codes "Ack") 1 1 ∷ []

-- A REPEATED REQUEST gets the same reply, and is in the log once.
abbrev pub request_repeated : List WorldEvent
request_repeated = both_have ++ delivers 9 ∷ delivers 10 ∷ RequestAt 1 (call 1 7 (codes "lock")) ∷ []

-- the second reply is the first one again, and the log has one request
abbrev pub RepeatedRequest : Type 0
RepeatedRequest = (lines request_repeated ≡ both_lines ++ reply 1 1 7 0 ∷ reply 1 1 7 0 ∷ []) ×
    (standing request_repeated 1 ≡ (1, Active, 1, 1))

-- LOST ACKNOWLEDGEMENTS: the primary stops before it receives them. The next primary has the
-- request, and both give the same answer.
abbrev pub lost_acknowledgements : List WorldEvent
lost_acknowledgements = both_have ++ MapMade (2 ∷ 3 ∷ []) ∷ sees 2 2 ∷ delivers 13 ∷ delivers 14 ∷ delivers 15 ∷
    delivers 16 ∷ delivers 17 ∷ delivers 18
    ∷ RequestAt 2 (call 1 7 (codes "lock")) ∷ delivers 9 ∷ delivers 10 ∷ []

-- both primaries reply with the same place
abbrev pub LostAcknowledgements : Type 0
LostAcknowledgements = lines lost_acknowledgements ≡ both_lines ++
    from_to 2 1 (codes "Query") 2 0 ∷ from_to 2 2 (codes "Query") 2 0 ∷ from_to 2 3 (codes "Query") 2 0
    ∷ from_to 3 2 (codes "Log") 2 1 ∷ from_to 2 3 (codes "Install") 2 1 ∷ from_to 3 2 (codes "Installed") 2 0 ∷
    to_monitor 2 2 ∷ from_monitor 2 2
    ∷ reply 2 1 7 0 ∷ reply 1 1 7 0 ∷ []

-- A PLACE TOO EARLY is ignored, and A REPEATED INSTALL leaves the list as it is.
abbrev pub repeated_install : List WorldEvent
repeated_install = three_nodes ++ RequestAt 1 (call 1 1 (codes "lock")) ∷ RequestAt 1 (call 1 2 (codes "unlock")) ∷
    delivers 9 ∷ delivers 7 ∷ delivers 1 ∷ []

-- place 1 is taken after place 0, and after the second Install the log is as it was
abbrev pub RepeatedInstall : Type 0
RepeatedInstall = (lines (repeated_install ++ delivers 9 ∷ []) ≡ three_lines ++
    from_to 1 2 (codes "Rep") 1 0 ∷ from_to 1 3 (codes "Rep") 1 0 ∷ from_to 1 2 (codes "Rep") 1 1
    ∷ from_to 1 3 (codes "Rep") 1 1 ∷ from_to 2 1 (codes "Ack") 1 1 ∷ from_to 2 1 (codes "Installed") 1 0 ∷
    from_to 2 1 (codes "Ack") 1 2 ∷ [])
    × (standing repeated_install 2 ≡ (1, Installed, 1, 0))

-- ALL MEMBERS STOPPED: the next primary asks them, and keeps asking.
abbrev pub all_stopped : List WorldEvent
all_stopped = three_nodes ++ MapMade (4 ∷ 5 ∷ []) ∷ sees 4 2 ∷ RequestAt 4 (call 1 8 (codes "lock")) ∷
    RequestAt 5 (call 1 8 (codes "lock")) ∷ []

-- three questions, and nothing after them
abbrev pub AllStopped : Type 0
AllStopped = (lines all_stopped ≡ three_lines ++
    from_to 4 1 (codes "Query") 2 0 ∷ from_to 4 2 (codes "Query") 2 0 ∷ from_to 4 3 (codes "Query") 2 0 ∷ [])
    × (standing all_stopped 4 ≡ (2, Asking, 0, 0))

-- A DIVERGENT END: the old primary has a request that no other node has, and drops it for the list
-- that the others chose.
abbrev pub divergent_end : List WorldEvent
divergent_end = both_have ++ delivers 9 ∷ delivers 10 ∷ RequestAt 1 (call 1 8 (codes "unlock")) ∷ MapMade (2 ∷ 3 ∷ []) ∷
    sees 2 2 ∷ delivers 16 ∷ delivers 17 ∷ delivers 18 ∷ delivers 19
    ∷ delivers 20 ∷ delivers 21 ∷ RequestAt 2 (call 2 1 (codes "lock")) ∷ delivers 22 ∷ delivers 23 ∷
    MapMade (1 ∷ 2 ∷ []) ∷ sees 1 3 ∷ delivers 26 ∷ delivers 27 ∷ []

-- that list is installed and activated, and the dropped request comes again
abbrev pub divergent_rest : List WorldEvent
divergent_rest = delivers 28 ∷ delivers 29 ∷ delivers 30 ∷ delivers 31 ∷ delivers 13 ∷
    RequestAt 1 (call 1 8 (codes "unlock")) ∷ delivers 32 ∷ delivers 33 ∷ []

-- it leads by that list, and the dropped request gets a new place
abbrev pub DivergentEnd : Type 0
DivergentEnd = (standing divergent_end 1 ≡ (3, Installing, 2, 1))
    × (lines (divergent_end ++ divergent_rest) ≡ both_lines ++
    reply 1 1 7 0 ∷ from_to 1 2 (codes "Rep") 1 1 ∷ from_to 1 3 (codes "Rep") 1 1
    ∷ from_to 2 1 (codes "Query") 2 0 ∷ from_to 2 2 (codes "Query") 2 0 ∷ from_to 2 3 (codes "Query") 2 0 ∷
    from_to 3 2 (codes "Log") 2 1 ∷ from_to 2 3 (codes "Install") 2 1
    ∷ from_to 3 2 (codes "Installed") 2 0 ∷ to_monitor 2 2 ∷ from_monitor 2 2 ∷ from_to 2 3 (codes "Rep") 2 1 ∷
    from_to 3 2 (codes "Ack") 2 2 ∷ reply 2 2 1 1
    ∷ from_to 1 2 (codes "Query") 3 0 ∷ from_to 1 3 (codes "Query") 3 0 ∷ from_to 3 1 (codes "Log") 3 2 ∷
    from_to 1 2 (codes "Install") 3 2
    ∷ from_to 2 1 (codes "Installed") 3 0 ∷ to_monitor 1 3 ∷ from_monitor 1 3 ∷ from_to 1 2 (codes "Rep") 3 2 ∷
    from_to 2 1 (codes "Ack") 3 3 ∷ reply 1 1 8 2 ∷ [])

-- UNANSWERED MESSAGES are what the primary sends again: first to both members, then to the one that
-- hasn't answered.
abbrev pub one_silent : List WorldEvent
one_silent = three_nodes ++ RequestAt 1 (call 1 7 (codes "lock")) ∷ []

-- to nodes 2 and 3, then to node 3
abbrev pub OneSilent : Type 0
OneSilent =
    (map line (unanswered 1 ((after one_silent).nodes 1)) ≡ from_to 1 2 (codes "Rep") 1 0 ∷
    from_to 1 3 (codes "Rep") 1 0 ∷ [])
    × (map line (unanswered 1 ((after (one_silent ++ delivers 7 ∷ delivers 9 ∷ [])).nodes 1)) ≡
    from_to 1 3 (codes "Rep") 1 0 ∷ [])

-- A KEPT INTERVAL: a map of the same acting list changes nothing at a node, and only the newest map
-- is compared.
abbrev pub kept_interval : List WorldEvent
kept_interval = three_nodes ++ MapMade (1 ∷ 2 ∷ 3 ∷ []) ∷ sees 2 2 ∷ RequestAt 1 (call 1 1 (codes "lock")) ∷
    delivers 7 ∷ delivers 8 ∷ delivers 9 ∷ delivers 10
    ∷ MapMade (1 ∷ 2 ∷ []) ∷ MapMade (1 ∷ 2 ∷ 3 ∷ []) ∷ sees 1 4 ∷ []

-- epoch, interval, and the interval before
abbrev pub intervals : GroupMap → ℕ × ℕ × ℕ
intervals m = (m.epoch, m.interval, m.prev)

-- the second map keeps the first's interval; the fourth begins one, though it has the first's list
abbrev pub KeptInterval : Type 0
KeptInterval =
    (lines kept_interval ≡ both_lines ++ reply 1 1 1 0 ∷ from_to 1 1 (codes "Query") 4 0 ∷
    from_to 1 2 (codes "Query") 4 0 ∷ from_to 1 3 (codes "Query") 4 0 ∷ [])
    × (map intervals (after kept_interval).maps ≡ (1, 1, 0) ∷ (2, 1, 0) ∷ (3, 3, 1) ∷ (4, 4, 1) ∷ [])
