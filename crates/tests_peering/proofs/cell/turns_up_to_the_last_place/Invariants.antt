use Rattle.tests_peering.proofs.cell.turns_up_to_the_last_place.Given as goal

abbrev pub ghosts-leads_three-N-BoardName : goal.ghosts-leads_three-N-BoardName
ghosts-leads_three-N-BoardName g a = record { board = a.board.now }

abbrev pub ghosts-leads_three-N-Classes : goal.ghosts-leads_three-N-Classes
ghosts-leads_three-N-Classes g a = record { classes = a.table.now }

abbrev pub ghosts-seen_after-N-BoardName : goal.ghosts-seen_after-N-BoardName
ghosts-seen_after-N-BoardName g a = record { board = a.board.now }

abbrev pub ghosts-seen_after-N-Classes : goal.ghosts-seen_after-N-Classes
ghosts-seen_after-N-Classes g a = record { classes = a.table.now }
