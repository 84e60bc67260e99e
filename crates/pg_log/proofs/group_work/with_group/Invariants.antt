use Rattle.pg_log.proofs.group_work.with_group.Given as goal

abbrev pub ghosts-start : goal.ghosts-start
ghosts-start g a = record { classes = a.table.now }
