-- Facts on the ends of the calls of a cluster file.
use Rattle.std.specs.Prelude.{◌≡◌, ℕ, suc, Bool, true, false, List, [], ◌∷◌, Some, None, Result, Ok, Err, slice_get}
use Rattle.std.specs.List.{list_any}
use Rattle.pg_log.specs.Log.{Classes}
use Rattle.cluster_file.specs.Planned.{PlannedCall}
use Rattle.cluster_file.specs.Plan.{calls_of}
use Rattle.cluster_file.specs.Text.{CallEnd, Replied, Refused}
use Rattle.cluster_file.specs.declared.planned_step.PlannedStep.{PlannedStep}
use Rattle.rados_client.specs.Promise.{IsCall}
use Rattle.rados_client.specs.Refusals.{exec_error_text}
use Rattle.rados_client.specs.Session.{PlacedReply, SessionState, next_request}
use Rattle.rados_client.specs.declared.exec_error.ExecError.{ExecError}

-- THE CALLS OF A SESSION, one after another, from its old state to its new one. Each call ended as
-- `exec` promises (`IsCall`) for the request that the session sent: a reply is true by a legal list
-- of requests to these classes, and that list begins with all that the session had seen of it
-- before; a refusal for class, method or input is the request's.
abbrev pub AreCalls : Classes → List PlannedCall → List (Result PlacedReply ExecError) → SessionState → SessionState →
    Type 0
AreCalls classes [] [] old new = new ≡ old
AreCalls classes [] (end ∷ ends) old new = ⊥
AreCalls classes (call ∷ calls) [] old new = ⊥
AreCalls classes (call ∷ calls) (end ∷ ends) old new =
    (next : SessionState) × IsCall classes old next (next_request old call.object call.class call.method call.input) end
    × AreCalls classes calls ends next new

-- the session of the client with that number, which has called nothing and knows nothing
pub record IsNewSession (number : ℕ) (s : SessionState) : Type 0 where
  pub client : s.client ≡ number
  pub used : s.used ≡ 0
  pub last : s.last ≡ None
  pub seen : s.contact.seen ≡ []

-- A CLIENT'S CALLS: a new session of that client made them in their order, and these are their
-- ends.
pub record AreEndsOf (classes : Classes) (client : ℕ) (planned : List PlannedCall)
    (ends : List (Result PlacedReply ExecError)) : Type 0 where
  pub first : SessionState
  pub last : SessionState
  pub new : IsNewSession client first
  pub calls : AreCalls classes planned ends first last

-- THE ENDS OF ALL CALLS of these steps: a list for each client, the first client's first.
abbrev pub AreAllEnds : Classes → List PlannedStep → List (List (Result PlacedReply ExecError)) → Type 0
AreAllEnds classes steps all =
    (before : ℕ) (ends : List (Result PlacedReply ExecError)) → slice_get all before ≡ Some ends
    → AreEndsOf classes (suc before) (calls_of (suc before) steps) ends

-- an end as it is printed
abbrev pub shown : Result PlacedReply ExecError → CallEnd
shown (Ok reply) = Replied reply.place reply.answer.code reply.answer.output
shown (Err error) = Refused (exec_error_text error)

-- a call was refused by its session
abbrev pub is_refused : Result PlacedReply ExecError → Bool
is_refused (Ok reply) = false
is_refused (Err error) = true

-- a call of some client was
abbrev pub any_refused : List (List (Result PlacedReply ExecError)) → Bool
any_refused all = list_any (λ ends. list_any is_refused ends) all
