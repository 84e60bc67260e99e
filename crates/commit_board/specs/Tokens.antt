-- The tokens of a board, as contracts see them.
use Rattle.std.specs.Prelude.{ℕ, List, []}
use Rattle.atomic_table.specs.Seated.{TableId}
use Rattle.pg_log.specs.Requests.{ClientRequest}

-- a writer: its board, its row, and the list of that row
pub record Row : Type 0 where
  pub board : TableId
  pub row : ℕ
  pub list : List ClientRequest

-- the list that is known of each row of a board, which is empty if nothing is known
pub record Knows : Type 0 where
  pub board : TableId
  pub lists : List (List ClientRequest)

-- by its parts
abbrev pub writer_of : TableId → ℕ → List ClientRequest → Row
writer_of board row list = record { board = board; row = row; list = list }

-- the writer of a row that has no request yet
abbrev pub new_writer : TableId → ℕ → Row
new_writer board row = writer_of board row []

-- by its parts
abbrev pub knows : TableId → List (List ClientRequest) → Knows
knows board lists = record { board = board; lists = lists }
