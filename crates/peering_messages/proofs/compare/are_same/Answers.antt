use Rattle.std.proofs.Common.{arith}
use Rattle.std.proofs.lemmas.Grind.{common_steps}
use Rattle.peering_messages.proofs.Lists.{not_same_length}
use Rattle.peering_messages.proofs.compare.are_same.Goals as goal

pub returns-then-nodes-others : goal.returns-then-nodes-others
returns-then-nodes-others c = not_same_length c.args.nodes.now c.args.others.now c.if-nodes-others.true

pub loop-place-preserved : goal.loop-place-preserved
loop-place-preserved c = grind (arith, common_steps)
