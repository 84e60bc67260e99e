use Rattle.std.proofs.Common.{ap, sym, ◌∙◌, is_none}
use Rattle.peering.proofs.Installing.{adopted, not_adopted}
use Rattle.peering.proofs.node.lead.become_list.Goals as goal

pub returns-in-Ok-clause-legal : goal.returns-in-Ok-clause-legal
returns-in-Ok-clause-legal g c =
    ap is_none (sym (adopted c.adopting.ensures c.args.table.now c.args.group.now c.args.list.now c.in-Ok._common c.requires.legal.legal c.in-Ok.ensures.common c.in-Ok.ensures.ran))

pub returns-else-is_memory-clause-legal : goal.returns-else-is_memory-clause-legal
returns-else-is_memory-clause-legal g c =
    ap is_none (sym (not_adopted c.adopting.ensures c.args.table.now c.args.group.now c.args.list.now c.in-Err.error c.requires.legal.legal (sym c.is_memory.ensures ∙ c.if-is_memory.false) c.in-Err.ensures.err))
