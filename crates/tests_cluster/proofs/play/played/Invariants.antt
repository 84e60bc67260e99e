use Rattle.tests_cluster.proofs.play.played.Given as goal

abbrev pub ghosts-played_on-N-Classes : goal.ghosts-played_on-N-Classes
ghosts-played_on-N-Classes g a = record { classes = a.table }

abbrev pub ghosts-played_on-N-BoardName : goal.ghosts-played_on-N-BoardName
ghosts-played_on-N-BoardName g a = record { board = a.parts.board }

abbrev pub ghosts-played_on-N-ClusterName : goal.ghosts-played_on-N-ClusterName
ghosts-played_on-N-ClusterName g a = record { queues = a.parts.queues; config = a.parts.config }
