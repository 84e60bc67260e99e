use Rattle.std.proofs.Common.{rules}
use Rattle.commit_board.proofs.board.Board.commit.Goals as goal

-- turned by commit_adds_nothing
pub returns : goal.returns
returns c = search rules
