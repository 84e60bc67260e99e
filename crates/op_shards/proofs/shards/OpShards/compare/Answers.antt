use Rattle.std.proofs.Common.{rules, arith}
use Rattle.std.proofs.lemmas.Grind.{elements}
use Rattle.op_shards.proofs.shards.OpShards.compare.Goals as goal

-- turned by compare_compares_nothing
pub returns-clause-accepted : goal.returns-clause-accepted
returns-clause-accepted g c = search rules

-- turned by compare_compares_nothing
pub returns-clause-first : goal.returns-clause-first
returns-clause-first g c = search rules

pub compare-requires-clause-queue : goal.compare-requires-clause-queue
compare-requires-clause-queue g c = grind (arith, elements)
