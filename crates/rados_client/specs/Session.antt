-- A session and a reply as contracts see them, and the next request of a session.
use Rattle.std.specs.Prelude.{ℕ, suc, List, Option, Some}
use mathlib.Core.List.{IsPrefix}
use Rattle.pg_log.specs.Requests.{ClientRequest}
use Rattle.pg_log.specs.Log.{Reply as Answer}
use Rattle.commit_board.specs.Lists.{list_at}
use Rattle.op_shards.specs.Passes.{Sender}
use Rattle.carried.specs.declared.operation.Operation.{Operation}

-- a session's contact with the cluster: the list that it knows of each row of the board, the
-- operations that each queue accepted from it, and the number of its nudges
pub record Contact : Type 0 where
  pub seen : List (List ClientRequest)
  pub sends : Sender Operation
  pub nudges : ℕ

-- a session: its client, the count of its numbers that are used up, the request that was sent last,
-- and its contact
pub record SessionState : Type 0 where
  pub client : ℕ
  pub used : ℕ
  pub last : Option ClientRequest
  pub contact : Contact

-- a reply: the place in the group's log, and the method's answer there
pub record PlacedReply : Type 0 where
  pub place : ℕ
  pub answer : Answer

-- the request of the session's next call: the numbers begin at 1 and rise by one
abbrev pub next_request : SessionState → List ℕ → ℕ → List ℕ → List ℕ → ClientRequest
next_request s object class method input =
    record { client = s.client; number = suc s.used; object = object; class = class; method = method; input = input }

-- for each row the later list begins with the earlier one
abbrev pub KnowsMore : List (List ClientRequest) → List (List ClientRequest) → Type 0
KnowsMore old new = (i : ℕ) → IsPrefix (list_at old i) (list_at new i)
