use Rattle.std.proofs.Common.{rules}
use Rattle.op_shards.proofs.shards.OpShards.gather.Goals as goal

-- turned by gather_forgets
pub returns : goal.returns
returns g c = search rules
