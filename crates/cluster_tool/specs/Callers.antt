-- A client in its thread.
use Rattle.std.specs.Prelude.{◌≡◌, ◌++◌, ℕ, suc, ◌<◌, Bool, false, List, [], ◌∷◌, Result, length, slice_index_or}
use Rattle.pg_log.specs.Log.{Classes}
use Rattle.cluster_file.specs.Planned.{PlannedCall}
use Rattle.cluster_file.specs.Plan.{calls_of}
use Rattle.cluster_file.specs.declared.planned_step.PlannedStep.{PlannedStep}
use Rattle.cluster_tool.specs.Answers.{AreCalls, IsNewSession}
use Rattle.rados_client.specs.Promise.{IsCall}
use Rattle.rados_client.specs.Session.{PlacedReply, SessionState, next_request}
use Rattle.rados_client.specs.declared.exec_error.ExecError.{ExecError}

-- a client's session, the ends of its calls so far, and whether memory for one of these was refused
pub record CallerState : Type 0 where
  pub session : SessionState
  pub ends : List (Result PlacedReply ExecError)
  pub lost : Bool

-- the client made a call, and kept its end
pub record MadeCall (classes : Classes) (call : PlannedCall) (old new : CallerState) : Type 0 where
  pub end : Result PlacedReply ExecError
  pub made : IsCall classes old.session new.session
      (next_request old.session call.object call.class call.method call.input) end
  pub lost : new.lost ≡ false → old.lost ≡ false
  pub ends : new.lost ≡ false → new.ends ≡ old.ends ++ end ∷ []

-- the ends of the client's calls of these steps were added
pub record HasEnded (classes : Classes) (steps : List PlannedStep) (old new : CallerState) : Type 0 where
  pub more : List (Result PlacedReply ExecError)
  pub grew : new.ends ≡ old.ends ++ more
  pub calls : AreCalls classes (calls_of old.session.client steps) more old.session new.session

-- the client made its calls of these steps
pub record HasCalled (classes : Classes) (steps : List PlannedStep) (old new : CallerState) : Type 0 where
  pub client : new.session.client ≡ old.session.client
  pub lost : new.lost ≡ false → old.lost ≡ false
  pub ends : new.lost ≡ false → HasEnded classes steps old new

-- a client that has called nothing
pub record IsNewCaller (client : ℕ) (c : CallerState) : Type 0 where
  pub session : IsNewSession client c.session
  pub ends : c.ends ≡ []
  pub lost : c.lost ≡ false

-- the given number of clients, which have called nothing, the first one first
pub record AreNew (clients : ℕ) (callers : List CallerState) : Type 0 where
  pub count : length callers ≡ clients
  pub each : (k : ℕ) (d : CallerState) → k < clients → IsNewCaller (suc k) (slice_index_or callers k d)

-- each client made its calls of these steps
pub record AllCalled (classes : Classes) (steps : List PlannedStep) (olds news : List CallerState) : Type 0 where
  pub count : length news ≡ length olds
  pub each : (k : ℕ) (d : CallerState) → k < length olds →
      HasCalled classes steps (slice_index_or olds k d) (slice_index_or news k d)
