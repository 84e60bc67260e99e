use Rattle.tests_memory_rows.proofs.cells.turned.Given as goal

abbrev pub ghosts-turns-N-BoardName : goal.ghosts-turns-N-BoardName
ghosts-turns-N-BoardName a = record { board = a.board.now }

abbrev pub ghosts-turns-N-Classes : goal.ghosts-turns-N-Classes
ghosts-turns-N-Classes a = record { classes = a.table.now }
