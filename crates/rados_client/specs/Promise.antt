-- The promises of a call about its reply or its refusal.
use Rattle.std.specs.Prelude.{◌≡◌, ◌⊎◌, ◌↔◌, ⊤, ℕ, suc, ◌-◌, ◌^◌, List, Option, Some, None, Result, Err, IfOk, IfErr}
use Rattle.std.specs.Prelude.{slice_get}
use Rattle.std.specs.List.{AllByRecursion}
use mathlib.Core.List.{IsPrefix}
use Rattle.verifier.specs.Verified.{IsVerifiedClass}
use Rattle.pg_log.specs.Requests.{ClientRequest}
use Rattle.pg_log.specs.Log.{Classes}
use Rattle.pg_log.specs.Runs.{RanAt}
use Rattle.pg_log.specs.Refusals.{refusal_of_class}
use Rattle.pg_log.specs.declared.log_error.LogError.TheVariants as log
use Rattle.commit_board.specs.Lists.{list_at}
use Rattle.group_cell.specs.Posts.{Stands}
use Rattle.op_shards.specs.Passes.{Sender, Grew, WasSent}
use Rattle.carried.specs.declared.operation.Operation.{Operation}
use Rattle.carried.specs.declared.operation.Carried.TheVariants.{Request as ARequest}
use Rattle.rados_client.specs.declared.exec_error.ExecError.{ExecError}
use Rattle.rados_client.specs.declared.exec_error.ExecError.TheVariants as exec
use Rattle.rados_client.specs.Session.{Contact, SessionState, PlacedReply, KnowsMore}

-- One of the known lists, the list of some row, has a legal beginning that has the whole request
-- once, at the reply's place, with the reply's answer.
pub record IsAnswered (classes : Classes) (lists : List (List ClientRequest)) (r : ClientRequest)
    (reply : PlacedReply) : Type 0 where
  pub row : ℕ
  pub begun : List ClientRequest
  pub begins : IsPrefix begun (list_at lists row)
  pub stands : Stands classes begun reply.place r reply.answer

-- The same without known lists: some legal list has the whole request once, at the reply's place,
-- with the reply's answer.
pub record IsAnswerIn (classes : Classes) (r : ClientRequest) (reply : PlacedReply) : Type 0 where
  pub list : List ClientRequest
  pub stands : Stands classes list reply.place r reply.answer

-- The whole request ran at the reply's place of a list: in every memory layout its method's bytes
-- ran on the object that the requests before it left, in at most as many steps as the method has
-- instructions. Code and output are the answer's.
pub record HasRun (classes : Classes) (list : List ClientRequest) (r : ClientRequest)
    (reply : PlacedReply) : Type 0 where
  pub ran : RanAt classes list reply.place r
  pub answered : reply.answer ≡ record { code = ran.outcome.code; output = ran.outcome.output }

-- With verified classes an answered request has run.
abbrev pub AnswersHaveRun : Type 0
AnswersHaveRun =
    (classes : Classes) (lists : List (List ClientRequest)) (r : ClientRequest) (reply : PlacedReply) →
    AllByRecursion IsVerifiedClass classes → (answer : IsAnswered classes lists r reply) →
    HasRun classes answer.begun r reply

-- between the two states of a pass a queue took the whole request
abbrev pub WasAsked : Sender Operation → Sender Operation → ClientRequest → Type 0
WasAsked old new r = WasSent old new (λ op. op.carried ≡ ARequest r)

-- between the two states of a pass no queue took the whole request
abbrev pub NotAsked : Sender Operation → Sender Operation → ClientRequest → Type 0
NotAsked old new r = WasAsked old new r → ⊥

-- The meaning of a refusal: of the request, by the loaded classes, and of the queues that it was
-- submitted to. Taken says that a queue took it in this call, Untaken that none did.
abbrev pub Says : Classes → ClientRequest → Type 0 → Type 0 → ExecError → Type 0
Says classes r Taken Untaken exec.NotPrimary = ⊥
Says classes r Taken Untaken exec.Peering = ⊥
Says classes r Taken Untaken exec.LogFull = ⊤
Says classes r Taken Untaken exec.StaleNumber = ⊤
Says classes r Taken Untaken exec.NoClass = refusal_of_class (slice_get classes r.class) r ≡ Some log.NoClass
Says classes r Taken Untaken exec.NoMethod = refusal_of_class (slice_get classes r.class) r ≡ Some log.NoMethod
Says classes r Taken Untaken exec.InputTooLong = refusal_of_class (slice_get classes r.class) r ≡ Some log.InputTooLong
Says classes r Taken Untaken exec.NoMemory = ⊤
Says classes r Taken Untaken exec.Unanswered = Taken
Says classes r Taken Untaken exec.NothingSent = ⊥
Says classes r Taken Untaken exec.NumbersUsedUp = ⊥
Says classes r Taken Untaken exec.NotTaken = Untaken

-- The whole promise of asking for a request, about the session's contact with the cluster.
pub record IsAsked (classes : Classes) (old new : Contact) (r : ClientRequest)
    (result : Result PlacedReply ExecError) : Type 0 where
  pub seen : KnowsMore old.seen new.seen
  pub grew : Grew old.sends new.sends
  pub ok : IfOk result (IsAnswered classes new.seen r)
  pub err : IfErr result (Says classes r (WasAsked old.sends new.sends r) (NotAsked old.sends new.sends r))

-- the request's number is used up, and the request is the one that was sent last
abbrev pub IsUsed : SessionState → SessionState → ClientRequest → Type 0
IsUsed old new r = (new.used ≡ suc old.used) × (new.last ≡ Some r)

-- The request's number after a refused call: it is used up. The session is unchanged if no number
-- was left, and also if memory was refused before the request was sent.
abbrev pub NumberAt : SessionState → SessionState → ClientRequest → ExecError → Type 0
NumberAt old new r exec.NotPrimary = ⊥
NumberAt old new r exec.Peering = ⊥
NumberAt old new r exec.LogFull = IsUsed old new r
NumberAt old new r exec.StaleNumber = IsUsed old new r
NumberAt old new r exec.NoClass = IsUsed old new r
NumberAt old new r exec.NoMethod = IsUsed old new r
NumberAt old new r exec.InputTooLong = IsUsed old new r
NumberAt old new r exec.NoMemory = IsUsed old new r ⊎ (new ≡ old)
NumberAt old new r exec.Unanswered = IsUsed old new r
NumberAt old new r exec.NothingSent = ⊥
NumberAt old new r exec.NumbersUsedUp = new ≡ old
NumberAt old new r exec.NotTaken = IsUsed old new r

-- the meaning of a new request's refusal: no number is left for it, or as above
abbrev pub SaysNew : Classes → SessionState → SessionState → ClientRequest → ExecError → Type 0
SaysNew classes old new r e =
    ((e ≡ exec.NumbersUsedUp) × (old.used ≡ 2 ^ 32 - 1))
    ⊎ Says classes r (WasAsked old.contact.sends new.contact.sends r) (NotAsked old.contact.sends new.contact.sends r) e

-- The promise of a call with a new request.
pub record IsCall (classes : Classes) (old new : SessionState) (r : ClientRequest)
    (result : Result PlacedReply ExecError) : Type 0 where
  -- the client stays
  pub client : new.client ≡ old.client
  -- each list that was known before is a beginning of the one known after
  pub seen : KnowsMore old.contact.seen new.contact.seen
  -- a reply is true, by the lists known after
  pub ok : IfOk result (IsAnswered classes new.contact.seen r)
  -- a refusal is true
  pub err : IfErr result (SaysNew classes old new r)
  -- a number is used once
  pub used : IfOk result (λ _. IsUsed old new r)
  pub number : IfErr result (NumberAt old new r)
  -- this refusal comes exactly if all numbers are used up
  pub used_up : (result ≡ Err exec.NumbersUsedUp) ↔ (old.used ≡ 2 ^ 32 - 1)

-- the promise of asking again for the request that was sent last, if there is one
abbrev pub IsAskedAgain : Classes → SessionState → SessionState → Option ClientRequest → Result PlacedReply ExecError →
    Type 0
IsAskedAgain classes old new None result = (result ≡ Err exec.NothingSent) × (new ≡ old)
IsAskedAgain classes old new (Some r) result = IsAsked classes old.contact new.contact r result

-- The promise of a call with the request that was sent last.
pub record IsRepeat (classes : Classes) (old new : SessionState) (result : Result PlacedReply ExecError) : Type 0 where
  -- client, number and request stay
  pub client : new.client ≡ old.client
  pub used : new.used ≡ old.used
  pub last : new.last ≡ old.last
  -- the known lists only grow, and the answer is true
  pub asked : IsAskedAgain classes old new old.last result
