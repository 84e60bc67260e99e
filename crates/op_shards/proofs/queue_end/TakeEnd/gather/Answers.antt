use Rattle.std.proofs.Common.{ap, arith}
use Rattle.std.proofs.lemmas.Grind.{common_steps}
use Rattle.op_shards.proofs.Keeps.{parts, meets}
use Rattle.op_shards.proofs.queue_end.TakeEnd.gather.Goals as goal

pub another-took-requires-clause-rule : goal.another-took-requires-clause-rule
another-took-requires-clause-rule g c = parts g.T.GroupOp.group _ _ c.other.invariant.1

pub absorb-requires-clause-rule : goal.absorb-requires-clause-rule
absorb-requires-clause-rule g c = meets g.T.GroupOp.group _ _ _ _ c.self.invariant.1 (ap (λ v. v.end) c.another-took.ensures.rule.1)

pub returns-clause-mine : goal.returns-clause-mine
returns-clause-mine g c = grind (arith, common_steps)

pub returns-clause-other : goal.returns-clause-other
returns-clause-other g c = grind (arith, common_steps)
