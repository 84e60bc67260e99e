use Rattle.commit_board.proofs.board.Board.commit.Given as goal

abbrev pub ghosts-commit_said : goal.ghosts-commit_said
ghosts-commit_said a = record { request = a.request.now }
