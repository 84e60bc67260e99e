use Rattle.sim_world.specs.Step.{beginning}
use Rattle.sim_world.proofs.Stepping.{first_held}
use Rattle.sim_world.proofs.world.World.new.Goals as goal

pub invariant_of-result : goal.invariant_of-result
invariant_of-result g c = λ e. (beginning g.C.Classes.classes, first_held g.C.Classes.classes c.in_ok-new.field-0 c.in_ok-new.ensures)

pub returns : goal.returns
returns g c = first_held g.C.Classes.classes c.in_ok-new.field-0 c.in_ok-new.ensures
