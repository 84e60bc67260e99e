-- The messages that a node sent in its interval and that no answer covers.
use Rattle.std.specs.Prelude.{ℕ, suc, List, [], ◌∷◌, ◌++◌, drop, ◌||◌, ◌==◌, if◌then◌else◌}
use Rattle.placement.specs.Placement.{has}
use Rattle.pg_log.specs.Requests.{ClientRequest}
use Rattle.group_world.specs.Maps.{all_among}
use Rattle.group_world.specs.Node.{NodeState, packet, to_all}
use Rattle.group_world.specs.Rules.{ask_if}
use Rattle.group_world.specs.declared.status.Status.{Status}
use Rattle.group_world.specs.declared.status.Status.TheVariants.{Out, Waiting, Installed, Asking, Installing, Active}
use Rattle.group_world.specs.declared.party.Party.TheVariants.{Node as ANode}
use Rattle.group_world.specs.declared.message.MessageKind.{MessageKind}
use Rattle.group_world.specs.declared.message.MessageKind.TheVariants.{Query, Install, Rep}
use Rattle.group_world.specs.declared.message.Packet.{Packet}

-- the same message to each of these nodes that isn't the sender and hasn't joined
abbrev pub to_missing : ℕ → List ℕ → List ℕ → MessageKind → List Packet
to_missing n joined [] kind = []
to_missing n joined (m ∷ ms) kind = if has m joined ||
    m == n then to_missing n joined ms kind else packet n (ANode m) kind ∷ to_missing n joined ms kind

-- a Rep to one member of each of these requests, which are in the log from a place on
abbrev pub reps_from : ℕ → ℕ → ℕ → ℕ → List ClientRequest → List Packet
reps_from n m interval place [] = []
reps_from n m interval place (r ∷ rs) =
    packet n (ANode m) (Rep interval place r) ∷ reps_from n m interval (suc place) rs

-- a Rep to each of these members except the sender, of each place past its acknowledged length
abbrev pub reps_unacked : ℕ → NodeState → List ℕ → List ℕ → List Packet
reps_unacked n s [] acked = []
reps_unacked n s (m ∷ ms) [] = []
reps_unacked n s (m ∷ ms) (a ∷ acked) = if m == n then reps_unacked n s ms acked else
    reps_from n m s.interval a (drop a s.log) ++ reps_unacked n s ms acked

-- by the node's status
abbrev pub unanswered_in : ℕ → NodeState → Status → List Packet
unanswered_in n s Out = []
unanswered_in n s Waiting = []
unanswered_in n s Installed = []
unanswered_in n s Asking = to_all n s.members.prev_acting (Query s.members)
unanswered_in n s Installing =
    to_missing n s.joined s.members.acting (Install s.members s.log) ++ ask_if n s (all_among s.members.acting s.joined)
unanswered_in n s Active = reps_unacked n s s.members.acting s.acked

-- The unanswered messages of a node: members in acting order (for a Query that of the previous
-- interval), places rising.
abbrev pub unanswered : ℕ → NodeState → List Packet
unanswered n s = unanswered_in n s s.status
