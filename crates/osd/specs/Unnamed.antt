-- A cluster that has no name yet.
use Rattle.std.specs.Prelude.{◌≡◌, []}
use Rattle.atomic_table.specs.Seated.{TableId}
use Rattle.op_shards.specs.Passes.{Queues}
use Rattle.commit_board.specs.Tokens.{Row}
use Rattle.osd.specs.declared.config.Config.{Config}

-- its board, its queues, and what it is made of
pub record Unnamed : Type 0 where
  pub board : TableId
  pub queues : Queues
  pub config : Config

-- a writer of the board whose row is empty
pub record IsUnused (name : TableId) (w : Row) : Type 0 where
  pub board : w.board ≡ name
  pub list : w.list ≡ []
