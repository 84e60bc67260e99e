use Rattle.class_calls.proofs.LeftOut.{enough}
use Rattle.class_calls.proofs.laws.parts_may_be_left_out.Goals as goal

pub returns : goal.returns
returns c = enough c.one_object.ensures c.chains.ensures c.layouts.ensures c.simulation.ensures.simulates c.lists.ensures.ends c.lists.ensures.one c.frame.ensures.outcome c.frame.ensures.list
