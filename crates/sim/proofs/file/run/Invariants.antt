use Rattle.sim.proofs.file.run.Given as goal

abbrev pub ghosts-run_lines : goal.ghosts-run_lines
ghosts-run_lines g a = record { classes = a.setup.now.table.now }
