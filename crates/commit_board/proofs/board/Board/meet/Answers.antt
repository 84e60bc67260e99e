use Rattle.std.proofs.Common.{rules}
use Rattle.commit_board.proofs.board.Board.meet.Goals as goal

-- turned by meet_does_nothing
pub returns-clause-received : goal.returns-clause-received
returns-clause-received c = search rules
