-- A node's number and state, and what they are after an event.
use Rattle.std.specs.Prelude.{◌≡◌, ◌⊎◌, ℕ, List, Some, None}
use Rattle.group_world.specs.Node.{NodeState, Outcome}
use Rattle.group_world.specs.declared.message.Packet.{Packet}
use Rattle.group_world.specs.declared.handle_error.HandleError.{HandleError}
use Rattle.group_world.specs.declared.handle_error.HandleError.TheVariants.{NoMemory}

-- how contracts see a node
pub record NumberedNode : Type 0 where
  pub number : ℕ
  pub state : NodeState

-- The node has the outcome's state, exactly the outcome's messages were sent, and it is no refusal.
pub record IsDone (old new : NumberedNode) (messages : List Packet) (o : Outcome) : Type 0 where
  pub number : new.number ≡ old.number
  pub state : new.state ≡ o.node
  pub sent : messages ≡ o.sent
  pub unrefused : o.refusal ≡ None

-- An error is the outcome's refusal; it is NoMemory only if the outcome is no refusal.
abbrev pub IsRefusal : Outcome → HandleError → Type 0
IsRefusal o e = (o.refusal ≡ Some e) ⊎ ((e ≡ NoMemory) × (o.refusal ≡ None))
