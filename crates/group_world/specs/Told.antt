-- What the messages and the refusals of one step say is true.
use Rattle.std.specs.Prelude.{◌≡◌, ℕ, ◌≤◌, length, Some, slice_get}
use Rattle.std.specs.List.{Contains}
use Rattle.pg_log.specs.Requests.{ClientRequest}
use Rattle.pg_log.specs.Log.{Classes}
use Rattle.pg_log.specs.Refusals.{refusal_of_class}
use Rattle.pg_log.specs.declared.log_error.LogError.TheVariants as log
use Rattle.group_world.specs.Node.{NodeState, committed_list}
use Rattle.group_world.specs.Rules.{local_step}
use Rattle.group_world.specs.World.{IsTrueOf}
use Rattle.group_world.specs.declared.message.Packet.{Packet}
use Rattle.group_world.specs.declared.event.Event.{Event}
use Rattle.group_world.specs.declared.event.Event.TheVariants.{Request as ARequest}
use Rattle.group_world.specs.declared.handle_error.HandleError.{HandleError}
use Rattle.group_world.specs.declared.handle_error.HandleError.TheVariants as node

-- Each Reply that a step sends is true of the node's committed list after it.
abbrev pub RepliesAreCommitted : Type 0
RepliesAreCommitted = (classes : Classes) (n : ℕ) (s : NodeState) (event : Event) → s.committed ≤ length s.log →
    (p : Packet) → Contains (local_step classes n s event).sent p →
    IsTrueOf classes (committed_list (local_step classes n s event).node) p.message.kind

-- What a refusal by class, method or input says about the request is true of the loaded classes.
-- Nothing is said about other refusals.
pub record IsDeserved (classes : Classes) (request : ClientRequest) (why : HandleError) : Type 0 where
  pub class : why ≡ node.NoClass → refusal_of_class (slice_get classes request.class) request ≡ Some log.NoClass
  pub method : why ≡ node.NoMethod → refusal_of_class (slice_get classes request.class) request ≡ Some log.NoMethod
  pub input : why ≡ node.InputTooLong →
      refusal_of_class (slice_get classes request.class) request ≡ Some log.InputTooLong

-- Each refusal of a step is deserved.
abbrev pub RefusalsAreDeserved : Type 0
RefusalsAreDeserved = (classes : Classes) (n : ℕ) (s : NodeState) (r : ClientRequest) (why : HandleError) →
    (local_step classes n s (ARequest r)).refusal ≡ Some why → IsDeserved classes r why
