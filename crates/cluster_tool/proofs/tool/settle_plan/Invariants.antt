use Rattle.cluster_tool.proofs.tool.settle_plan.Given as goal

abbrev pub ghosts-play-N-Classes : goal.ghosts-play-N-Classes
ghosts-play-N-Classes g a = record { classes = a.table }

abbrev pub ghosts-play-N-BoardName : goal.ghosts-play-N-BoardName
ghosts-play-N-BoardName g a = record { board = a.parts.board }

abbrev pub ghosts-play-N-ClusterName : goal.ghosts-play-N-ClusterName
ghosts-play-N-ClusterName g a = record { queues = a.parts.queues; config = a.parts.config }
