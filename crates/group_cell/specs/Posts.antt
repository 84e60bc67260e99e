-- What goes out to a client, and what is true of it.
use Rattle.std.specs.Prelude.{◌≡◌, ℕ, List, Some, slice_get}
use Rattle.std.specs.List.{AllByRecursion}
use Rattle.pg_log.specs.Requests.{ClientRequest}
use Rattle.pg_log.specs.Log.{Classes, Legal, Reply, reply_at}
use Rattle.pg_log.specs.Within.{IsRequest}
use Rattle.group_world.specs.declared.handle_error.HandleError.{HandleError}
use Rattle.commit_board.specs.Lists.{list_at}
use Rattle.group_cell.specs.Cell.{CellState}

-- In a legal list of requests, which are within their type's ranges, the request stands at the
-- place, and at no other, and is answered so there.
pub record Stands (classes : Classes) (list : List ClientRequest) (place : ℕ) (request : ClientRequest)
    (answer : Reply) : Type 0 where
  pub legal : Legal classes list
  pub requests : AllByRecursion IsRequest list
  pub there : slice_get list place ≡ Some request
  pub once : (k : ℕ) → slice_get list k ≡ Some request → k ≡ place
  pub gives : reply_at classes list place ≡ Some answer

-- a reply: the request, its row and place, the answer, and what the reply's note knows of each row
pub record PostedReply : Type 0 where
  pub request : ClientRequest
  pub row : ℕ
  pub place : ℕ
  pub answer : Reply
  pub lists : List (List ClientRequest)

-- The reply is of the cell's row and of this place, and its note knows the row's list. What stands
-- at the place is the request of the cell's committed list, by the reply's type.
pub record IsReplyOf (cell : CellState) (at : ℕ) (r : PostedReply) : Type 0 where
  pub row : r.row ≡ cell.row
  pub place : r.place ≡ at
  pub known : list_at r.lists r.row ≡ cell.written

-- a refusal: the request, and why it is refused
pub record PostedRefusal : Type 0 where
  pub request : ClientRequest
  pub why : HandleError
