-- What contracts see of a group's node under a lock.
use Rattle.std.specs.Prelude.{ℕ, List}
use Rattle.pg_log.specs.Requests.{ClientRequest}
use Rattle.peering.specs.Numbered.{NumberedNode}

-- a node, the row of the board that its writer writes, and that row's list
pub record CellState : Type 0 where
  pub node : NumberedNode
  pub row : ℕ
  pub written : List ClientRequest
