use Rattle.sim_world.proofs.Going.{worlds_agree}
use Rattle.sim_world.proofs.laws.worlds_agree.Goals as goal

pub returns : goal.returns
returns c = worlds_agree c.agreement.ensures.agreed c.agreement.ensures.kept c.nothing_is_cut.ensures
