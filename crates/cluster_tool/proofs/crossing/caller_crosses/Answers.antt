use denote.Param.{param}
use denote.Param.Send.{IsSend, AllSend, sendable, view_send, recorded_send, struct_send}
use denote.Struct.Declared.{shape}
use denote.Struct.Struct.{Struct}
use Rattle.std.proofs.Crossing as crossing
use Rattle.osd.specs.declared.name.ClusterName as cluster_name
use Rattle.group_cell.specs.declared.board_name.BoardName as board_name
use Rattle.pg_log.specs.declared.classes.Classes as class_names
use Rattle.cluster_tool.specs.contracts.caller.Caller.TheInside as inside
use Rattle.cluster_tool.proofs.crossing.caller_crosses.Goals as goal

-- part by part: the session, the ends of its calls, and whether one of these ends was lost
pub returns : goal.returns
returns g c life =
    let N = param 0 g.row.N in
    let R = param 1 g.row.R in
    let q : cluster_name.Ghosts N.Denot = record { queues = g.N.ClusterName.queues; config = g.N.ClusterName.config } in
    let b : board_name.Ghosts N.Denot = record { board = g.N.BoardName.board } in
    let k : class_names.Ghosts N.Denot = record { classes = g.N.Classes.classes } in
    let T = inside.the_type life N R q b k in
    let parts : AllSend (shape T).fields = (c.session_crosses.ensures life, (search (c.can_send.ensures, crossing.crosses, sendable) depth 8, (search (crossing.crosses, sendable) depth 8, tt))) in
    let f : IsSend (inside.the_row life N R q b k) = recorded_send (Struct (shape T)) T.D T.to T.to_one (struct_send (shape T) parts) in
    view_send _ _ _ _ _ f
