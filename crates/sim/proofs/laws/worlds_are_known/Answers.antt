use Rattle.sim.proofs.Agreeing.{worlds_known}
use Rattle.sim.proofs.laws.worlds_are_known.Goals as goal

pub returns : goal.returns
returns c = worlds_known c.worlds_agree.ensures c.replies_run.ensures
