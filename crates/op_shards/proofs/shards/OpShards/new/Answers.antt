use Rattle.std.proofs.Common.{arith}
use Rattle.std.proofs.lemmas.Grind.{common_steps}
use Rattle.op_shards.proofs.shards.OpShards.new.Goals as goal

pub invariant_of-shards : goal.invariant_of-shards
invariant_of-shards g c = grind (arith, common_steps)

pub returns-clause-shards : goal.returns-clause-shards
returns-clause-shards g c = grind (arith, common_steps)
