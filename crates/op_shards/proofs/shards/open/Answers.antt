use Rattle.std.proofs.Common.{inl, refl}
use Rattle.op_shards.proofs.shards.open.Goals as goal

pub ruled-requires-clause-rule : goal.ruled-requires-clause-rule
ruled-requires-clause-rule g c = inl (refl, refl)
