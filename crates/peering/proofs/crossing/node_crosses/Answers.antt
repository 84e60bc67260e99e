use denote.Param.{param}
use Rattle.peering.proofs.Crosses.{node_sends}
use Rattle.peering.proofs.crossing.node_crosses.Goals as goal

pub returns : goal.returns
returns g c = node_sends (param 0 g.row.C) g.C.Classes c.map_crosses.ensures.sent c.group_crosses.ensures c.lists_cross.ensures
