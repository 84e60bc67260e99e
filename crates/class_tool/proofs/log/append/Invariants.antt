use Rattle.class_tool.proofs.log.append.Given as goal

abbrev pub ghosts-append_first : goal.ghosts-append_first
ghosts-append_first a = record { classes = a.table.now }
