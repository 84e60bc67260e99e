use Rattle.tests_group.proofs.log.class_added.Given as goal

abbrev pub ghosts-adds : goal.ghosts-adds
ghosts-adds g a = record { classes = a.table }
