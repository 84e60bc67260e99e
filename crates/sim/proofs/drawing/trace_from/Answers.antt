use Rattle.std.proofs.lemmas.Result.{IfOk-weaker}
use Rattle.sim.proofs.Picturing.{is_drawing}
use Rattle.sim.proofs.drawing.trace_from.Goals as goal

pub returns : goal.returns
returns g c = IfOk-weaker c.drawn.result _ _ (λ t is. is_drawing _ c.in_ok-bad.bad _ _ c.in_ok-bad.ensures is) c.drawn.ensures
