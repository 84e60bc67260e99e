-- A node of a group, and the outcome of an event.
use Rattle.std.specs.Prelude.{ℕ, List, [], ◌∷◌, Bool, true, false, if◌then◌else◌, ◌==◌, Option, Some, None, take, ◌++◌}
use Rattle.pg_log.specs.Requests.{ClientRequest}
use Rattle.group_world.specs.Maps.{GroupMap, no_map}
use Rattle.group_world.specs.declared.status.Status.{Status}
use Rattle.group_world.specs.declared.status.Status.TheVariants.{Out, Waiting, Installed, Asking, Installing, Active}
use Rattle.group_world.specs.declared.party.Party.{Party}
use Rattle.group_world.specs.declared.party.Party.TheVariants.{Node as ANode}
use Rattle.group_world.specs.declared.message.MessageKind.{MessageKind}
use Rattle.group_world.specs.declared.message.Packet.{Packet}
use Rattle.group_world.specs.declared.handle_error.HandleError.{HandleError}

-- what a node of a group remembers
pub record NodeState : Type 0 where
  -- the interval that it is in, 0 before the first
  pub interval : ℕ
  -- the map with which it entered that interval
  pub members : GroupMap
  pub status : Status
  pub log : List ClientRequest
  -- the length of the committed list
  pub committed : ℕ
  -- the members that have installed, while it is installing
  pub joined : List ℕ
  -- the acknowledged length of each acting member, in acting order, while it is active
  pub acked : List ℕ

-- a node at the beginning
abbrev pub fresh : NodeState
fresh = record { interval = 0; members = no_map; status = Out; log = []; committed = 0; joined = []; acked = [] }

-- The committed list: the first committed-length requests of the log.
abbrev pub committed_list : NodeState → List ClientRequest
committed_list s = take s.committed s.log

-- The outcome of an event: the node's state after it, the messages that it sends in their order,
-- and the refusal, if it refuses.
pub record Outcome : Type 0 where
  pub node : NodeState
  pub sent : List Packet
  pub refusal : Option HandleError

-- the node is as before, and nothing is sent
abbrev pub nothing : NodeState → Outcome
nothing s = record { node = s; sent = []; refusal = None }

-- the node is as before, and refuses
abbrev pub refused : NodeState → HandleError → Outcome
refused s why = record { node = s; sent = []; refusal = Some why }

-- the outcome with one more message at the end
abbrev pub and_sends : Outcome → Packet → Outcome
and_sends o p = record { node = o.node; sent = o.sent ++ p ∷ []; refusal = None }

-- a message of a node
abbrev pub packet : ℕ → Party → MessageKind → Packet
packet n receiver kind = record { receiver = receiver; message = record { sender = ANode n; kind = kind } }

-- the same message to each of these nodes
abbrev pub to_all : ℕ → List ℕ → MessageKind → List Packet
to_all n [] kind = []
to_all n (m ∷ ms) kind = packet n (ANode m) kind ∷ to_all n ms kind

-- the same message to each of these nodes except the sender
abbrev pub to_others : ℕ → List ℕ → MessageKind → List Packet
to_others n [] kind = []
to_others n (m ∷ ms) kind = if m == n then to_others n ms kind else packet n (ANode m) kind ∷ to_others n ms kind

-- whether a status is that one:
abbrev pub is_waiting : Status → Bool
is_waiting Waiting = true
is_waiting _ = false

abbrev pub is_installed : Status → Bool
is_installed Installed = true
is_installed _ = false

abbrev pub is_asking : Status → Bool
is_asking Asking = true
is_asking _ = false

abbrev pub is_installing : Status → Bool
is_installing Installing = true
is_installing _ = false

abbrev pub is_active : Status → Bool
is_active Active = true
is_active _ = false
