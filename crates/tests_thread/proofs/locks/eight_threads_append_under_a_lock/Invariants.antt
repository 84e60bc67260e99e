use Rattle.tests_thread.proofs.locks.eight_threads_append_under_a_lock.Given as goal

abbrev pub ghosts-appended : goal.ghosts-appended
ghosts-appended g a = record { classes = a.table.now }
