use Rattle.sim_world.proofs.Equal.{same_requests}
use Rattle.sim_world.proofs.same.are_equal.Goals as goal

pub returns : goal.returns
returns c =
    same_requests c.are_same_requests.result c.args.list.now c.args.other.now
    c.are_same_requests.ensures.0 c.are_same_requests.ensures.1
