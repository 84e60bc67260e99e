-- Steps of the code alone; no promise of the crate rests on them.
-- What is decided before a node moves: the move, and the state after it.
use Rattle.std.specs.Prelude.{◌≡◌, ℕ, ◌-◌, List, [], ◌∷◌, ◌++◌, length, take, drop, Option, Some, None, ◌==◌, unwrap_or}
use Rattle.std.specs.Prelude.{Bool, true, false, if◌then◌else◌}
use Rattle.pg_log.specs.Requests.{ClientRequest}
use Rattle.pg_log.specs.declared.log_error.LogError.{LogError}
use Rattle.pg_log.specs.declared.log_error.LogError.TheVariants.{NoMemory}
use Rattle.pg_log.specs.Log.{Classes}
use Rattle.group_world.specs.Maps.{GroupMap}
use Rattle.group_world.specs.Node.{NodeState, Outcome, nothing, and_sends, fresh, is_installing, is_installed, packet}
use Rattle.group_world.specs.Node.{to_others}
use Rattle.peering.specs.Numbered.{NumberedNode}
use Rattle.group_world.specs.Unanswered.{reps_from}
use Rattle.group_world.specs.Rules.{is_usable, replies_from}
use Rattle.group_world.specs.declared.status.Status.{Status}
use Rattle.group_world.specs.declared.status.Status.TheVariants.{Installed}
use Rattle.group_world.specs.declared.party.Party.{Party}
use Rattle.group_world.specs.declared.message.MessageKind.TheVariants.{Installed as InstalledIn, Rep, Ack}
use Rattle.group_world.specs.declared.message.Packet.{Packet}
use Rattle.peering.specs.declared.node.arrival.Arrival.{Arrival}
use Rattle.peering.specs.declared.node.serve.Commit.{Commit}

-- A MOVE.

-- the log after a move: a primary that installs at once has adopted the empty list
abbrev pub log_after : NodeState → Option Status → List ClientRequest
log_after s None = s.log
log_after s (Some status) = if is_installing status then [] else s.log

-- the node after a move to a map, with its status and the members that have installed; or without a
-- move
abbrev pub after_move : NodeState → GroupMap → Option Status → List ℕ → NodeState
after_move s m None joined = s
after_move s m (Some status) joined =
    record {
      interval = m.interval;
      members = m;
      status = status;
      log = log_after s (Some status);
      committed = s.committed;
      joined = joined;
      acked = [];
    }

-- the interval after a move
abbrev pub interval_after : NodeState → GroupMap → Option Status → ℕ
interval_after s m None = s.interval
interval_after s m (Some status) = m.interval

-- The step that was decided at a map has this outcome: its state and its messages, and no refusal.
pub record Makes (s : NodeState) (m : GroupMap) (a : Arrival) (o : Outcome) : Type 0 where
  pub node : after_move s m a.status a.joined.items ≡ o.node
  pub sent : a.sent.items ≡ o.sent
  pub unrefused : o.refusal ≡ None

-- AN INSTALL, at a map that isn't ignored.

-- the outcome for a node that waits after the move
abbrev pub install_first : Classes → ℕ → NodeState → Party → GroupMap → List ClientRequest → Arrival → Outcome
install_first classes n s sender m list a = if is_usable classes s list then
    record {
      node = record (after_move (record s { log = list }) m a.status a.joined.items) { status = Installed };
      sent = a.sent.items ++ packet n sender (InstalledIn (interval_after s m a.status)) ∷ [];
      refusal = None;
    } else nothing s

-- and for one that doesn't
abbrev pub install_again : ℕ → NodeState → Party → GroupMap → Arrival → Outcome
install_again n s sender m a = if is_installed (unwrap_or a.status s.status) then
    record {
      node = after_move s m a.status a.joined.items;
      sent = a.sent.items ++ packet n sender (InstalledIn (interval_after s m a.status)) ∷ [];
      refusal = None;
    }
    else record { node = after_move s m a.status a.joined.items; sent = a.sent.items; refusal = None }

-- A LIST IS TAKEN, or a length is acknowledged.

-- the node with another log
abbrev pub with_log : NumberedNode → List ClientRequest → NumberedNode
with_log node list = record { number = node.number; state = record (node.state) { log = list } }

-- the node acknowledges its log's length, if there is one to acknowledge
abbrev pub acks_if : ℕ → Party → NodeState → Option ℕ → Outcome
acks_if n receiver s None = nothing s
acks_if n receiver s (Some k) = and_sends (nothing s) (packet n receiver (Ack s.interval k))

-- ONE REQUEST MORE at an active primary.

-- what it sends, if it commits up to a place
abbrev pub sent_with : Classes → ℕ → NodeState → ClientRequest → ℕ → List Packet
sent_with classes n s r point =
    to_others n s.members.acting (Rep s.interval (length s.log) r) ++
    replies_from classes n (s.log ++ r ∷ []) s.committed (drop s.committed (take point (s.log ++ r ∷ [])))

-- the outcome, with the acknowledged lengths, the commit point and the messages after it
abbrev pub grown : NodeState → ClientRequest → Commit → Outcome
grown s r w = record {
  node = record s { log = s.log ++ r ∷ []; committed = w.point; acked = w.acked.items };
  sent = w.sent.items;
  refusal = None;
}

-- SENT AGAIN.

-- a node with this interval and log; nothing else of it is used
abbrev pub at_interval : ℕ → List ClientRequest → NodeState
at_interval interval log = record fresh { interval = interval; log = log }

-- the Reps to one member, of the requests from its acknowledged length on
abbrev pub reps_for : ℕ → ℕ → ℕ → ℕ → List ClientRequest → List Packet
reps_for n m interval a rest = if m == n then [] else reps_from n m interval a rest

-- all messages, or the first ones, that many
abbrev pub first : {X : Type 0} → Option ℕ → List X → List X
first None xs = xs
first (Some most) xs = take most xs

-- the same after some that were made before
abbrev pub first_after : {X : Type 0} → Option ℕ → ℕ → List X → List X
first_after None made xs = xs
first_after (Some most) made xs = take (most - made) xs

-- memory was refused
abbrev pub is_memory : LogError → Bool
is_memory NoMemory = true
is_memory _ = false
