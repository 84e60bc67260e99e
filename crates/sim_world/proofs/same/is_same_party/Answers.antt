use Rattle.std.proofs.Common.{rules}
use Rattle.sim_world.proofs.Equal.{same_party}
use Rattle.sim_world.proofs.same.is_same_party.Goals as goal

pub returns : goal.returns
returns c = same_party c.eq.result c.args.party c.args.other (λ t. search rules) (λ e. search rules)
