use Rattle.std.proofs.Common.{refl, subst, arith}
use Rattle.std.proofs.lemmas.Grind.{elements}
use Rattle.op_shards.specs.Order.{IsHere}
use Rattle.op_shards.specs.Passes.{Queues, shard_of}
use Rattle.op_shards.proofs.shards.OpShards.take.Goals as goal

pub returns-in-Some-clause-answer : goal.returns-in-Some-clause-answer
returns-in-Some-clause-answer g c =
    let facts = c.in-Some.ensures in
    (c.in-Some.ranked, refl, facts.0, subst (λ (q : Queues). IsHere g.T.GroupOp.group (shard_of q c.args.shard) c.in-Some.ranked) c.requires.pass facts.1, facts.2, facts.3)

pub pop-requires : goal.pop-requires
pop-requires g c = grind (arith, elements)
