use denote.Param.{param}
use Rattle.osd.specs.declared.name.ClusterName as cluster_name
use Rattle.group_cell.specs.declared.board_name.BoardName as board_name
use Rattle.pg_log.specs.declared.classes.Classes as class_names
use Rattle.rados_client.proofs.Crosses.{connection_sends, session_sends}
use Rattle.rados_client.proofs.crossing.session_crosses.Goals as goal

pub returns : goal.returns
returns g c life =
    let N = param 0 g.row.N in
    let R = param 1 g.row.R in
    let q : cluster_name.Ghosts N.Denot = record { queues = g.N.ClusterName.queues; config = g.N.ClusterName.config } in
    let b : board_name.Ghosts N.Denot = record { board = g.N.BoardName.board } in
    let k : class_names.Ghosts N.Denot = record { classes = g.N.Classes.classes } in
    session_sends life N R q b k (connection_sends life N R q b k c.running_crosses.ensures.shared c.running_crosses.ensures.sends c.board_crosses.ensures.seen) c.request_crosses.ensures.sent
