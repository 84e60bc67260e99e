use Rattle.std.proofs.Common.{List, subst}
use Rattle.std.specs.List.{Contains}
use Rattle.group_world.specs.declared.message.Packet.{Packet}
use Rattle.group_cell.proofs.Resent.{unanswered-true}
use Rattle.group_cell.proofs.cell.GroupCell.resend.Goals as goal

pub all_out-requires-clause-replies : goal.all_out-requires-clause-replies
all_out-requires-clause-replies g c p has =
    unanswered-true g.N.Classes.classes c.args.self.now.written c.args.most c.node.result.now.number c.node.result.now.state p (subst (λ (l : List Packet). Contains l p) c.in-Ok.ensures.ok has)
