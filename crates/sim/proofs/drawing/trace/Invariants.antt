use Rattle.sim.proofs.drawing.trace.Given as goal

abbrev pub ghosts-trace_lines : goal.ghosts-trace_lines
ghosts-trace_lines a = record { classes = a.setup.now.table.now }
