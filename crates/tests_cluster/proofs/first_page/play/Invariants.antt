use Rattle.tests_cluster.proofs.first_page.play.Given as goal

abbrev pub ghosts-play_named-N-Classes : goal.ghosts-play_named-N-Classes
ghosts-play_named-N-Classes g a = record { classes = a.table }

abbrev pub ghosts-play_named-N-BoardName : goal.ghosts-play_named-N-BoardName
ghosts-play_named-N-BoardName g a = record { board = a.parts.board }

abbrev pub ghosts-play_named-N-ClusterName : goal.ghosts-play_named-N-ClusterName
ghosts-play_named-N-ClusterName g a = record { queues = a.parts.queues; config = a.parts.config }
