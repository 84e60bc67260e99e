-- A reply that was sent is its method's run.
use Rattle.std.specs.Prelude.{◌≡◌, ℕ, List, Some, slice_get}
use Rattle.pg_log.specs.Requests.{ClientRequest}
use Rattle.pg_log.specs.Log.{Classes, Reply}
use Rattle.pg_log.specs.Runs.{RanAt}
use Rattle.group_world.specs.declared.message.MessageKind.{MessageKind}
use Rattle.group_world.specs.declared.message.MessageKind.TheVariants.{Reply as ReplyTo}

-- The list has a request of that client and number at that place, and it ran there: wherever its
-- memory lies, its method's bytes end with this answer on the object that the requests before it
-- left, in at most as many steps as the method has instructions.
pub record HasRun (classes : Classes) (list : List ClientRequest) (client number place : ℕ)
    (answer : Reply) : Type 0 where
  pub request : ClientRequest
  pub of_client : request.client ≡ client
  pub of_number : request.number ≡ number
  pub stands : slice_get list place ≡ Some request
  pub ran : RanAt classes list place request
  pub answered : answer ≡ record { code = ran.outcome.code; output = ran.outcome.output }

-- a message that is a reply has run
abbrev pub ReplyHasRun : Classes → List ClientRequest → MessageKind → Type 0
ReplyHasRun classes list (ReplyTo client number place answer) = HasRun classes list client number place answer
ReplyHasRun classes list _ = Unit {0}
