use Rattle.pg_log.proofs.group_work.go_on.Given as goal

abbrev pub ghosts-go_on_as : goal.ghosts-go_on_as
ghosts-go_on_as g a = record { classes = a.table.now }
